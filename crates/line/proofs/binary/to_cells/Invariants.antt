-- `binary::to_cells` meets its contract: what is turned, and then what is left to turn, gives the whole.
use Rattle.std.proofs.Common.{◌≡◌, map, take, drop, ◌++◌}
use Rattle.rules.specs.Binary.{cell_of}
use Rattle.line.proofs.binary.to_cells.Given as goal

abbrev pub invariant-loop-set : goal.invariant-loop-set
invariant-loop-set l = take l.set-index l.sets ++ map cell_of (drop l.set-index l.sets) ≡ map cell_of l.fn.sets
