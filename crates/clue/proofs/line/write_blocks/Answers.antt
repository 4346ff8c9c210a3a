-- `line::write_blocks` meets its contract: what is left to write gives the whole.
use lib.ListN.{length, length-append}
use mathlib.Core.Path.{ap, ◌∙◌}
use Rattle.std.proofs.Common.{rules}
use Rattle.std.proofs.lemmas.Fn.{always_returns_same}
use Rattle.std.specs.List.{IsChunkByPrefix}
use Rattle.std.specs.Slice.Iter.{chunk_by_rest}
use Rattle.clue.specs.Steps.{read_in, fields}
use Rattle.clue.proofs.Runs.{alike, still_computes, run_blank, run_block}
use Rattle.loops.proofs.Going.{going_put, going_on}
use native.Mathlib.Omega.{arith}
use Rattle.clue.proofs.line.write_blocks.Goals as goal
use Rattle.clue.proofs.line.write_blocks.Goals.{In-Some}

-- the run's codes are taken alike
cut : (c : In-Some) → IsChunkByPrefix (alike (read_in c.args.reading)) (chunk_by_rest c.loop-run.run-iterator) (length c.in-Some.run'.now)
cut c =
    (c.in-Some.ensures.steps.2 (alike (read_in c.args.reading))
    (still_computes _ (alike (read_in c.args.reading)) _ _ c.loop-run.yielded (always_returns_same _ _ _ (λ a r q k. search rules)) c.loop-run.yielded_by)).1

pub loop-run-preserved : goal.loop-run-preserved
loop-run-preserved c =
    let steps = c.in-Some.ensures.steps in (
      search rules,
      omega (arith, ap length steps.0, length-append c.in-Some.run'.now (chunk_by_rest c.next.new.self), c.loop-run.invariant.1),
      going_on c.loop-run.invariant.2
          (ap (fields c.args.field)
          (run_blank c.args.reading.ink c.args.reading.blank _ _ _ steps.0 steps.1 (cut (goal.at.loop-run-preserved c).In-Some)
          c.if-run-reading.false)),
    )

pub loop-run-preserved-then-run-reading : goal.loop-run-preserved-then-run-reading
loop-run-preserved-then-run-reading c =
    let steps = c.in-Some.ensures.steps in (
      search rules,
      omega (arith, ap length steps.0, length-append c.in-Some.run'.now (chunk_by_rest c.next.new.self), c.loop-run.invariant.1),
      going_put c.loop-run.invariant.2
          (ap (fields c.args.field)
          (run_block c.args.reading.ink c.args.reading.blank _ _ _ steps.0 steps.1 (cut (goal.at.loop-run-preserved-then-run-reading c).In-Some)
          c.if-run-reading.true)
          ∙ rw (c.of.ensures, c.read.ensures)),
    )
