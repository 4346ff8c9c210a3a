-- At most one answer satisfies each public call's statement: two answers to one input are equal, and so is every list at exit.
use Prim.Native.Nat.{ℕ}
use lib.ListN.{length}
use mathlib.Core.List.{List}
use mathlib.Core.Path.{◌≡◌, ap, ap₂}
use native.Mathlib.Omega.{arith}
use Rattle.picture.specs.Calls.{clues_reply, totals, GridLists, BinaryClues, ColouredClues}
use Rattle.std.specs.Prelude.{Result, Ok, Err}
use Rattle.rules.specs.declared.Refusal.{Refusal}
use Rattle.picture.specs.declared.Totals.{Totals}
use Rattle.rules.proofs.Replies.{number_one, head_one, same}
use Rattle.rules.specs.Block.{Block}
use Rattle.rules.specs.Refusal.{Rule}

clues_reply_one : (r s : Result Totals Refusal) → clues_reply r ≡ clues_reply s → r ≡ s
clues_reply_one (Ok t) (Ok u) e =
    let p : t.rows ≡ u.rows = cc in
    let q : t.columns ≡ u.columns = cc in
    ap₂ (λ m n. Ok (totals m n)) p q
clues_reply_one (Ok t) (Err u) e = let h = ap length e in absurd (omega arith)
clues_reply_one (Err w) (Ok t) e = let h = ap length e in absurd (omega arith)
clues_reply_one (Err w) (Err u) e = ap (λ x. Err x) (number_one w u (head_one e))

four_lists : {rules : List Rule} {rows columns : List (List Block)} {rc rs cc cs x y z u x' y' z' u' : List ℕ} {r s : Result Totals Refusal}
    → GridLists rules rows columns rc rs cc cs r x y z u → GridLists rules rows columns rc rs cc cs s x' y' z' u'
    → (r ≡ s) × (x ≡ x') × (y ≡ y') × (z ≡ z') × (u ≡ u')
four_lists {r = r} {s = s} p q = (
  clues_reply_one r s (same p.answers q.answers),
  same p.row_counts q.row_counts,
  same p.row_sizes q.row_sizes,
  same p.column_counts q.column_counts,
  same p.column_sizes q.column_sizes,
)

pub binary_clues : (e w h : ℕ) (b : List ℕ) {rc rs cc cs x y z u x' y' z' u' : List ℕ} {r s : Result Totals Refusal}
    → BinaryClues e w h b rc rs cc cs r x y z u → BinaryClues e w h b rc rs cc cs s x' y' z' u' → (r ≡ s) × (x ≡ x') × (y ≡ y') × (z ≡ z') × (u ≡ u')
binary_clues e w h b p q = four_lists p q

pub coloured_clues : {e w h : ℕ} {b rc rs rt cc cs ct x y t z u v x' y' t' z' u' v' : List ℕ} {r s : Result Totals Refusal}
    → ColouredClues e w h b rc rs rt cc cs ct r x y t z u v → ColouredClues e w h b rc rs rt cc cs ct s x' y' t' z' u' v'
    → ((r ≡ s) × (x ≡ x') × (y ≡ y') × (z ≡ z') × (u ≡ u')) × (t ≡ t') × (v ≡ v')
coloured_clues p q = (
  four_lists p.lists q.lists,
  same p.colours.row_colours q.colours.row_colours,
  same p.colours.column_colours
      q.colours.column_colours,
)
