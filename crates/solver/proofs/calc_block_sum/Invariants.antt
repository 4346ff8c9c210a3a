-- `calc_block_sum` meets its contract: the sums of the blocks passed are written.
use Rattle.solver.proofs.Stored.{Summing}
use Rattle.solver.proofs.calc_block_sum.Given as goal

abbrev pub invariant-loop-b : goal.invariant-loop-b
invariant-loop-b l = Summing l.initial.line l.line l.start l.b
