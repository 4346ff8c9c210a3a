-- `jobs::run_judged` meets its contract.
use mathlib.Core.Path.{refl}
use native.Mathlib.Omega.{arith}
use Rattle.std.proofs.Common.{rules}
use Rattle.card.specs.Steps.{lent_card}
use Rattle.run.proofs.Started.{begins, ended}
use Rattle.run.proofs.jobs.run_judged.Goals as goal

pub run_jobs-requires : goal.run_jobs-requires
run_jobs-requires c = begins c.requires _ _ _ _ refl refl (omega arith) (omega arith) c.set_up-stack.ensures.starts

pub returns : goal.returns
returns c =
    ended c.args.width c.args.height c.args.start (lent_card c.args.card) c.args.grid.now c.set_up-stack.result c.set_up-stack.ensures.count c.set_up-stack.ensures.starts.lines
    c.run_jobs.ensures.ended (search rules)
