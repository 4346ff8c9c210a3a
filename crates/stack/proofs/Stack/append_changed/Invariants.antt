-- `Stack::append_changed` meets its contract: the crossing lines of the changed indexes from j on are on top.
use Rattle.stack.proofs.Pushed.{Topping}
use Rattle.stack.proofs.Stack.append_changed.Given as goal

abbrev pub invariant-loop-j : goal.invariant-loop-j
invariant-loop-j l = Topping l.before l.answer l.initial.self l.line l.self l.j
