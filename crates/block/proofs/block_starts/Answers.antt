-- `block_starts` meets its contract: the rules, and then the loop.
use mathlib.Core.Path.{sym}
use Rattle.std.proofs.Common.{rules}
use Rattle.block.proofs.Packed.{edges_starts}
use Rattle.block.proofs.Told.{packed}
use Rattle.rules.specs.Packing.{starts_from}
use Rattle.block.proofs.block_starts.Goals as goal

pub returns : goal.returns
returns g c =
    packed (g.B.Blocks.lent c.args.blocks.now) c.args.starts.now c.count-count.ensures (sym c.in_ok-judge.ensures) (λ start end. start) (starts_from 0)
    (edges_starts 0) (c.pack.ensures (λ start end. start) (λ start end r p. search rules))
