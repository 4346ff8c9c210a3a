-- `Stack::full` meets its contract: the distances that are left give the whole.
use Rattle.stack.proofs.Ordered.{Ordering}
use Rattle.stack.proofs.Stack.full.Given as goal

abbrev pub invariant-loop-distance : goal.invariant-loop-distance
invariant-loop-distance l = Ordering l.width l.height l.initial.stack l.stack l.distance
