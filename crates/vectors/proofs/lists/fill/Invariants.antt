use Rattle.std.proofs.Common.{map}
use Rattle.vectors.specs.Fillers.{Filled}
use Rattle.vectors.proofs.lists.fill.Given as goal

abbrev pub invariant-loop-index : goal.invariant-loop-index
invariant-loop-index g l = Filled (g.T.Entry.entry_at l.fn.turn) (map g.T.Entry.value l.list) l.index
