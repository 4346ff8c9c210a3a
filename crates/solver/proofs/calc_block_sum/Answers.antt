-- `calc_block_sum` meets its contract: the sums of the blocks passed are written.
use Rattle.std.proofs.Common.{◌+◌, cond, ap, ◌∙◌, arith}
use Rattle.filling.specs.Filling.{held}
use Rattle.solver.proofs.Stored.{summing_start, summing_more, end_space, space_mono, kept_size, kept_length}
use Rattle.solver.proofs.calc_block_sum.Goals as goal

pub loop-b-init : goal.loop-b-init
loop-b-init c = summing_start _ c.requires.no_sum

pub returns-then-line-end : goal.returns-then-line-end
returns-then-line-end c =
    record {
      kept = c.loop-b.invariant.kept;
      sums = λ e b l. cc;
      over = λ e. omega (
        arith,
        c.wide.ensures.0,
        kept_length c.loop-b.invariant.kept,
        end_space c.loop-b.invariant (omega (arith, c.requires.few)),
        space_mono (held c.args.line.now) (c.loop-b.b + 1) c.args.line.now.count (omega arith),
      );
    }

pub overflow_sub-line : goal.overflow_sub-line
overflow_sub-line c =
    omega (arith, c.wide.ensures.0, kept_size c.loop-b.invariant.kept c.loop-b.b, c.requires.sized c.loop-b.b c.loop-b-test.true)

pub overflow_cast-line : goal.overflow_cast-line
overflow_cast-line c = omega (arith, kept_length c.loop-b.invariant.kept)

pub loop-b-preserved : goal.loop-b-preserved
loop-b-preserved c =
    summing_more c.loop-b.invariant (omega (arith, c.requires.few)) c.room_of-start.result
    (c.room_of-start.ensures.0 ∙ ap (λ t. (held c.loop-b.line).size c.loop-b.b + cond t 1 0) c.trail_with_space.ensures)
    (c.loop-b.start + c.wide.result)
    (ap (λ x. c.loop-b.start + x) c.wide.ensures.0) (omega (arith, c.requires.short, kept_length c.loop-b.invariant.kept))
    (omega arith)

pub returns : goal.returns
returns c =
    record {
      kept = c.loop-b.invariant.kept;
      sums = λ t b h. c.loop-b.invariant.sums b (omega arith);
      over = λ t. cc;
    }
