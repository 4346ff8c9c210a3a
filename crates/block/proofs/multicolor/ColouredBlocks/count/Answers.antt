-- `multicolor::Coloured::count` meets its contract: there are as many blocks as entries in the shorter list.
use mathlib.Core.Path.{sym, ◌∙◌}
use Rattle.block.proofs.Lists.{length_blocks_min}
use Rattle.block.proofs.multicolor.ColouredBlocks.count.Goals as goal

pub returns : goal.returns
returns c = c.min.ensures ∙ sym (length_blocks_min c.args.self.now.sizes.now c.args.self.now.colours.now)
