-- `binary::to_sets` meets its contract: what is turned, and then what is left to turn, gives the whole.
use Rattle.std.proofs.Common.{◌≡◌, map, take, drop, ◌++◌}
use Rattle.rules.specs.Binary.{set_by}
use Rattle.line.proofs.binary.to_sets.Given as goal

abbrev pub invariant-loop-cell : goal.invariant-loop-cell
invariant-loop-cell l = take l.cell-index l.cells ++ map set_by (drop l.cell-index l.cells) ≡ map set_by l.fn.cells
