-- `jobs::run_jobs` meets its contract: what is left to run gives the whole.
use native.Mathlib.Omega.{arith}
use Rattle.stack.proofs.Piling.{kept_then}
use Rattle.run.proofs.Running.{run_starts, few, run_stops, run_refuses, run_less, run_moves}
use Rattle.run.proofs.jobs.run_jobs.Goals as goal

pub pop-requires : goal.pop-requires
pop-requires c = omega (arith, few _ _ _ _ _ _ c.requires.right c.loop-line.invariant, c.loop-line.invariant.kept.long, c.requires.stacked)

pub returns-then-not-update_line-clause-ended : goal.returns-then-not-update_line-clause-ended
returns-then-not-update_line-clause-ended c =
    run_refuses _ _ _ _ _ _ c.requires.right c.loop-line.invariant c.in-Some.line c.pop.new.self c.in-Some.ensures.taken
    c.if-not-update_line.ensures.updated

pub overflow_add-lines : goal.overflow_add-lines
overflow_add-lines c =
    omega (arith, c.loop-line.invariant.spent, c.loop-line.invariant.enough, few _ _ _ _ _ _ c.requires.right (run_starts _ _ _ _ _ _ c.requires), c.requires.reports, c.well_formed)

pub loop-line-smaller : goal.loop-line-smaller
loop-line-smaller c =
    run_less _ _ _ _ _ _ c.requires.right c.loop-line.invariant c.in-Some.line c.pop.new.self c.in-Some.ensures.taken
    c.if-not-update_line.ensures.updated

pub loop-line-preserved : goal.loop-line-preserved
loop-line-preserved c =
    run_moves _ _ _ _ _ _ c.requires.right c.loop-line.invariant c.in-Some.line c.pop.new.self c.in-Some.ensures.taken
    c.if-not-update_line.ensures.updated (kept_then c.pop.ensures.kept c.update_line.ensures.kept)

pub returns-clause-ended : goal.returns-clause-ended
returns-clause-ended c = run_stops _ _ _ _ _ _ c.requires.right c.loop-line.invariant c.in_default.ensures.taken
