-- The statements of the public calls, from what their parts tell.
use Rattle.std.specs.Prelude.{Ok}
use lib.ListN.{length}
use mathlib.Core.Path.{◌≡◌, sym, ap, ◌∙◌}
use Rattle.rules.proofs.Replies.{writes_done}
use Rattle.rules.proofs.Verdicts.{blocks_fine}
use mathlib.Core.List.{List}
use Prim.Native.Nat.{ℕ}
use native.Mathlib.Omega.{arith}
use borrow.Author.Tests.{leb-true}
use lib.Dec.{leb}
use lib.Seq.{sets}
use Rattle.rules.specs.Block.{Block, Lent}
use Rattle.rules.specs.Refusal.{roomy, verdict, block_rules, Writes}
use Rattle.loops.proofs.Going.{written_sets}
use Rattle.block.specs.Steps.{edges_from}
use Rattle.block.proofs.Packed.{length_edges}

-- ---- partial_sums and block_starts: n blocks were judged, and f of them was written

module _ (b : Lent) (out : List ℕ) {n : ℕ} (c : n ≡ length b.list) (e : verdict (block_rules b (leb n (length out))) ≡ Ok tt) where
  pub packed : (edge : ℕ → ℕ → ℕ) (f : List Block → List ℕ) → ((bs : List Block) → edges_from edge 0 bs ≡ f bs) → {out' : List ℕ}
      → out' ≡ sets out 0 (edges_from edge 0 b.list) → Writes (block_rules b (roomy b out)) (f b.list) out (Ok n) out'
  packed edge f same q =
      let p = (blocks_fine b (leb n (length out)) e).counted in
      let l : length (f b.list) ≡ length b.list = ap length (sym (same b.list)) ∙ length_edges edge 0 b.list in
      writes_done (ap (λ m. verdict (block_rules b (leb m (length out)))) (sym c) ∙ e) (c ∙ sym l)
      (q ∙ ap (λ vs. sets out 0 vs) (same b.list) ∙ written_sets (f b.list) out (omega (arith, l, c, leb-true n (length out) p.room)))
