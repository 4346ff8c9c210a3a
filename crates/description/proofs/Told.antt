-- The statements of the public calls, from what their parts tell.
use Rattle.std.specs.Prelude.{Ok}
use lib.ListN.{length, length-map}
use mathlib.Core.Path.{◌≡◌, ◌∙◌}
use Rattle.rules.proofs.Replies.{writes_done, blocks_done}
use Rattle.rules.proofs.Verdicts.{count_fine}
use mathlib.Core.Bool.{◌&&◌}
use mathlib.Core.List.{List, map}
use Prim.Native.Nat.{ℕ, ◌≤◌}
use native.Mathlib.Omega.{arith}
use borrow.Author.Tests.{leb-true}
use Rattle.rules.specs.Block.{Block, Lent, sizes_by, colours_by}
use Rattle.rules.specs.Clue.{coloured_default, binary_default, described}
use Rattle.rules.specs.Refusal.{roomy, verdict, written}
use Rattle.rules.proofs.Tests.{rooms}
use Rattle.loops.specs.Put.{Put}
use Rattle.loops.proofs.Going.{put_count, put_written}
use Rattle.description.specs.Calls.{description_rules, ColouredDescription, BinaryDescription}
use Rattle.description.proofs.Described.{length_described}

-- what stands in a list to which f of each block that is kept was written
module _ (d : ℕ) (f : Block → ℕ) (bs : List Block) where
  kept : length (map f (described d bs)) ≡ length (described d bs)
  kept = length-map (described d bs) f

  module _ {out out' : List ℕ} {n : ℕ} (p : Put out 0 (map f (described d bs)) n out') where
    kept_count : n ≡ length (described d bs)
    kept_count = put_count p ∙ kept

    kept_written : length bs ≤ length out → out' ≡ written (map f (described d bs)) out
    kept_written h = put_written p (omega (arith, kept, length_described d bs, h))

-- ---- Description::new

module _ (b : Lent) (os oc : List ℕ) (e : verdict (description_rules b (roomy b os && roomy b oc)) ≡ Ok tt) where
  rooms_of : (length b.list ≤ length os) × (length b.list ≤ length oc)
  rooms_of =
      rooms (length b.list) (length os) (length oc) (count_fine b.paired (length b.list) (roomy b os && roomy b oc) e).room

  pub description_done : {m n : ℕ} {os' oc' : List ℕ} → Put os 0 (sizes_by (described coloured_default b.list)) m os'
      → Put oc 0 (colours_by (described coloured_default b.list)) n oc' → ColouredDescription b os oc (Ok n) os' oc'
  description_done p q =
      blocks_done e (kept_count coloured_default (λ x. x.colour) b.list q) (kept_written coloured_default (λ x. x.size) b.list p rooms_of.0)
      (kept_written coloured_default (λ x. x.colour) b.list q rooms_of.1)

-- binary: the colours are not told
module _ (b : Lent) (out : List ℕ) (e : verdict (description_rules b (roomy b out)) ≡ Ok tt) where
  pub described_done : {n : ℕ} {out' : List ℕ} → Put out 0 (sizes_by (described binary_default b.list)) n out' → BinaryDescription b out (Ok n) out'
  described_done p =
      let h = leb-true (length b.list) (length out) (count_fine b.paired (length b.list) (roomy b out) e).room in
      writes_done e (put_count p) (kept_written binary_default (λ x. x.size) b.list p h)
