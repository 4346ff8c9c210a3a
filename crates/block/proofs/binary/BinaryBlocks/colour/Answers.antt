-- `binary::Binary::colour` meets its contract: each block is black.
use mathlib.Core.Path.{sym, ap}
use Rattle.block.proofs.Lists.{black_at}
use Rattle.rules.specs.Block.{Block}
use Rattle.block.proofs.binary.BinaryBlocks.colour.Goals as goal

pub returns : goal.returns
returns c = sym (ap (λ (b : Block). b.colour) (black_at c.args.self.now.sizes.now c.args._i c.requires))
