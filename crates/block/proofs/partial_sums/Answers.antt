-- `partial_sums` meets its contract: the rules, and then the loop.
use mathlib.Core.Path.{sym}
use Rattle.std.proofs.Common.{rules}
use Rattle.block.proofs.Packed.{edges_sums}
use Rattle.block.proofs.Told.{packed}
use Rattle.rules.specs.Packing.{sums_from}
use Rattle.block.proofs.partial_sums.Goals as goal

pub returns : goal.returns
returns g c =
    packed (g.B.Blocks.lent c.args.blocks.now) c.args.sums.now c.count-count.ensures (sym c.in_ok-judge.ensures) (λ start end. end) (sums_from 0)
    (edges_sums 0) (c.pack.ensures (λ start end. end) (λ start end r p. search rules))
