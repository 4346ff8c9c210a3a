-- `raster::write_pixels` meets its contract: the cells that are left give the whole.
use Rattle.loops.proofs.Going.{Going}
use Rattle.rules.specs.Pbm.{pixels}
use Rattle.pbm.proofs.raster.write_pixels.Given as goal

abbrev pub invariant-loop-i : goal.invariant-loop-i
invariant-loop-i l = Going l.initial.codes 0 (pixels l.text) l.codes l.i-iterator.count (pixels l.i-iterator.iter.iter.rest.now)
