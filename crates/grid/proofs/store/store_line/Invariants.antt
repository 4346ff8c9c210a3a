-- `store::store_line` meets its contract: what is left to store and to report gives the whole.
use Rattle.grid.proofs.Storing.{Storing}
use Rattle.grid.proofs.store.store_line.Given as goal

abbrev pub invariant-loop-j : goal.invariant-loop-j
invariant-loop-j l =
    Storing l.width l.height l.line l.answer l.initial.grid l.initial.report l.grid l.report l.j
