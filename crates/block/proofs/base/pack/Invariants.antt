-- `base::pack` meets its contract. The invariant: what is left to write gives the whole; the start grows by less than 2 ^ 32 + 1 a turn.
use Prim.Native.Nat.{ℕ, ◌≤◌, ◌*◌}
use lib.ListN.{length, drop}
use lib.Seq.{sets}
use mathlib.Core.Path.{◌≡◌}
use Rattle.block.specs.Steps.{edges_from}
use Rattle.block.proofs.base.pack.Given as goal

abbrev pub invariant-loop-i : goal.invariant-loop-i
invariant-loop-i g l =
    let bs = (g.B.Blocks.lent l.blocks).list in
    record {
      long : length l.out ≡ length l.initial.out;
      low : l.start ≤ l.i * 4294967296;
      whole : (f : ℕ → ℕ → ℕ) → ((start end r : ℕ) → goal.E-post g l.edge start end r → r ≡ f start end)
          → sets l.out l.i (edges_from f l.start (drop l.i bs)) ≡ sets l.initial.out 0 (edges_from f 0 bs);
    }
