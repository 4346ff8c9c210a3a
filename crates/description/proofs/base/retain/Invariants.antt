-- `base::retain` meets its contract: what is left to write gives the whole.
use mathlib.Core.Bool.{true, not}
use lib.Dec.{eqb}
use mathlib.Core.Path.{◌≡◌}
use Prim.Native.Nat.{◌≤◌}
use lib.ListN.{length, drop}
use Rattle.loops.proofs.Going.{Going}
use Rattle.rules.specs.Block.{sizes_by, colours_by}
use Rattle.rules.specs.Clue.{described}
use Rattle.description.proofs.base.retain.Given as goal

abbrev pub invariant-loop-i : goal.invariant-loop-i
invariant-loop-i g l =
    let bs = (g.B.Blocks.lent l.blocks).list in
    let d = l.default_colour in
    record {
      few : l.count ≤ l.i;
      room : length l.out_colours ≡ length l.initial.out_colours;
      sizes : Going l.initial.out_sizes 0 (sizes_by (described d bs)) l.out_sizes l.count (sizes_by (described d (drop l.i bs)));
      colours : not (eqb g.row.COLOURED 0) ≡ true → Going l.initial.out_colours 0 (colours_by (described d bs)) l.out_colours l.count (colours_by (described d (drop l.i bs)));
    }
