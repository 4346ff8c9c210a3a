-- `base::min_space` meets its contract. The invariant: the start, and what is left, give the whole.
use Prim.Native.Nat.{◌≤◌, ◌+◌, ◌*◌}
use lib.ListN.{drop}
use mathlib.Core.Path.{◌≡◌}
use Rattle.rules.specs.Packing.{total}
use Rattle.rules.specs.Placement.{pieces}
use Rattle.block.proofs.base.min_space.Given as goal

abbrev pub invariant-loop-i : goal.invariant-loop-i
invariant-loop-i g l =
    let bs = (g.B.Blocks.lent l.blocks).list in
    record {
      low : l.start ≤ l.i * 4294967296;
      whole : l.start + total (pieces (drop l.i bs)) ≡ total (pieces bs);
    }
