-- `rows::write_cells` meets its contract: the digits of the cells so far are added.
use Rattle.pbm.proofs.Pages.{adds_then}
use Rattle.rules.specs.Pbm.{digit_of}
use Rattle.std.proofs.lemmas.List.{take_more, map-append}
use Rattle.std.proofs.Common.{get_or}
use lib.ListN.{take}
use mathlib.Core.List.{[], ◌∷◌}
use Rattle.pbm.proofs.rows.write_cells.Goals as goal

pub loop-code-preserved : goal.loop-code-preserved
loop-code-preserved c =
    rw
    (take_more c.args.codes.now c.loop-code.code-index 0 c.loop-code-test.true, map-append digit_of (take c.loop-code.code-index c.args.codes.now) (get_or c.args.codes.now c.loop-code.code-index 0 ∷ []))
    (adds_then c.loop-code.invariant (rw c.digit_of.ensures at c.push.ensures))
