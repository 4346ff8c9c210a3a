-- `jobs::run_jobs` meets its contract: what is left to run gives the whole.
use Prim.Native.Nat.{◌+◌}
use Rattle.rules.specs.Run.{room}
use Rattle.card.specs.Steps.{lent_card}
use Rattle.run.proofs.Running.{Running}
use Rattle.run.proofs.jobs.run_jobs.Given as goal

abbrev pub invariant-loop-line : goal.invariant-loop-line
invariant-loop-line l =
    Running l.width l.height (lent_card l.card) l.initial.grid l.initial.report l.initial.stack l.grid l.report l.stack l.lines

abbrev pub decreases-loop-line : goal.decreases-loop-line
decreases-loop-line l = room l.grid + l.stack.count
