-- `raster::count_pixels` meets its contract: in the end all cells are counted.
use mathlib.Core.Path.{sym, ap, ◌∙◌}
use lib.Seq.{take_all}
use Rattle.std.specs.Prelude.{count_by}
use Rattle.rules.specs.Pbm.{is_pixel_of}
use Rattle.pbm.proofs.Pixels.{pixels_count}
use Rattle.pbm.proofs.raster.count_pixels.Goals as goal

pub returns : goal.returns
returns c =
    c.loop-byte.invariant ∙ ap (λ l. count_by is_pixel_of l) (take_all c.loop-byte.byte-index c.args.text.now c.loop-byte-test.false) ∙ sym (pixels_count c.args.text.now)
