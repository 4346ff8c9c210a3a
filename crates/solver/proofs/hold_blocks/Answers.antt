-- `hold_blocks` meets its contract: the blocks passed are written, and then four numbers.
use mathlib.Core.Path.{◌≡◌, ◌∙◌}
use native.Mathlib.Omega.{arith}
use Rattle.solver.proofs.Stored.{holding_more, holds}
use Rattle.solver.proofs.hold_blocks.Goals as goal

pub loop-b-preserved : goal.loop-b-preserved
loop-b-preserved g c = holding_more c.loop-b.invariant (omega arith) (omega arith) c.size.ensures c.colour.ensures

pub returns : goal.returns
returns g c =
    let e : c.loop-b.b ≡ c.count-count.result = omega arith in
    rw (← e) (holds c.args.length (e ∙ c.count-count.ensures) c.loop-b.invariant (omega arith) (omega arith) (omega arith))
