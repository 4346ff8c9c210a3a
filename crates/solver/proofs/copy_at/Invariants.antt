-- `copy_at` meets its contract: what is left to copy gives the whole.
use Prim.Native.Nat.{◌+◌}
use lib.ListN.{drop}
use Rattle.loops.proofs.Going.{Going}
use Rattle.solver.proofs.copy_at.Given as goal

abbrev pub invariant-loop-i : goal.invariant-loop-i
invariant-loop-i l = Going l.initial.to l.at l.from l.to (l.at + l.i) (drop l.i l.from)
