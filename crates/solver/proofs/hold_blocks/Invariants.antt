-- `hold_blocks` meets its contract: the blocks passed are written.
use Rattle.solver.proofs.Stored.{Holding}
use Rattle.solver.proofs.hold_blocks.Given as goal

abbrev pub invariant-loop-b : goal.invariant-loop-b
invariant-loop-b g l = Holding l.initial.line (g.B.Blocks.lent l.blocks).list l.line l.b
