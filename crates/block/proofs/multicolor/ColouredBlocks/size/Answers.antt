-- `multicolor::Coloured::size` meets its contract: block i has entry i of each list.
use native.Mathlib.Omega.{arith}
use mathlib.Core.Path.{sym, ap}
use Rattle.block.proofs.Lists.{length_blocks_min, blocks_at}
use Rattle.rules.specs.Block.{Block}
use Rattle.block.proofs.multicolor.ColouredBlocks.size.Goals as goal

pub offset_bounds-self-i : goal.offset_bounds-self-i
offset_bounds-self-i c = omega (arith, c.requires, length_blocks_min c.args.self.now.sizes.now c.args.self.now.colours.now)

pub bounds-self-i : goal.bounds-self-i
bounds-self-i c = omega (arith, c.requires, length_blocks_min c.args.self.now.sizes.now c.args.self.now.colours.now)

pub returns : goal.returns
returns c =
    sym (ap (λ (b : Block). b.size) (blocks_at c.args.self.now.sizes.now c.args.self.now.colours.now c.args.i c.requires))
