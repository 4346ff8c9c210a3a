-- `clear` meets its contract: the bytes passed are 0.
use Rattle.std.proofs.Common.{arith}
use Rattle.std.proofs.lemmas.Grind.{common_steps}
use Rattle.solver.specs.Steps.{Cleared}
use Rattle.solver.proofs.clear.Goals as goal

pub returns : goal.returns
unfolding Cleared
returns c = grind (arith, common_steps)
