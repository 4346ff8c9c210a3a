-- `multicolor::description_new` meets its contract: the rules, and then the pass.
use mathlib.Core.Path.{sym, refl}
use Rattle.rules.specs.Block.{coloured}
use Rattle.description.proofs.Told.{description_done}
use Rattle.description.proofs.multicolor.description_new.Goals as goal

pub returns : goal.returns
returns c =
    description_done (coloured c.args.blocks.now.sizes.now c.args.blocks.now.colours.now) c.args.out_sizes.now c.args.out_colours.now
    (sym (rw (c.both_room-roomy.ensures, c.count-count.ensures) at c.in_ok-judge_count.ensures)) c.retain.ensures.sizes (c.retain.ensures.colours refl)
