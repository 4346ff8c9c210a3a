-- `raster::count_pixels` meets its contract: the cells before the byte at hand are counted.
use Rattle.std.specs.Prelude.{◌≡◌, count_by, take}
use Rattle.rules.specs.Pbm.{is_pixel_of}
use Rattle.pbm.proofs.raster.count_pixels.Given as goal

abbrev pub invariant-loop-byte : goal.invariant-loop-byte
invariant-loop-byte l = l.count ≡ count_by is_pixel_of (take l.byte-index l.text)
