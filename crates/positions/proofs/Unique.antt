-- At most one answer satisfies each public call's statement: two answers to one input are equal, and so is every list at exit.
use Rattle.std.specs.Prelude.{Err, Ok, Result}
use mathlib.Core.Path.{◌≡◌, ap}
use mathlib.Core.List.{List}
use Prim.Native.Nat.{ℕ}
use native.Mathlib.Omega.{arith}
use lib.ListN.{length}
use Rattle.rules.specs.Block.{Lent}
use Rattle.rules.specs.Refusal.{Rule}
use Rattle.rules.proofs.Replies.{same, number_one, head_one, list_reply_one}
use Rattle.rules.specs.declared.Refusal.{Refusal}
use Rattle.positions.specs.Calls.{number_reply, PositionsNumber, Ranges, ColorRanges}

number_reply_one : (r s : Result ℕ Refusal) → number_reply r ≡ number_reply s → r ≡ s
number_reply_one (Ok m) (Ok n) e = cc
number_reply_one (Ok m) (Err u) e = let h = ap length e in absurd (omega arith)
number_reply_one (Err w) (Ok n) e = let h = ap length e in absurd (omega arith)
number_reply_one (Err w) (Err u) e = ap (λ x. Err x) (number_one w u (head_one e))

-- b is `coloured sizes colours` or `binary sizes`

pub positions_number_lem : {n : ℕ} {b : Lent} {r s : Result ℕ Refusal} → PositionsNumber n b r → PositionsNumber n b s → r ≡ s
positions_number_lem {r = r} {s = s} p q = number_reply_one r s (same p.answers q.answers)

ranges : {rules : List Rule} {n : ℕ} {b : Lent} {colours from to x y z x' y' z' : List ℕ} {r s : Result ℕ Refusal}
    → Ranges rules n b colours from to r x y z → Ranges rules n b colours from to s x' y' z' → (r ≡ s) × (x ≡ x') × (y ≡ y') × (z ≡ z')
ranges {r = r} {s = s} p q = (
  list_reply_one r s (same p.answers q.answers),
  same p.colour_list q.colour_list,
  same p.from_list q.from_list,
  same
      p.to_list q.to_list,
)

pub color_ranges_lem : (n : ℕ) (b : Lent) {colours from to x y z x' y' z' : List ℕ} {r s : Result ℕ Refusal}
    → ColorRanges n b colours from to r x y z → ColorRanges n b colours from to s x' y' z' → (r ≡ s) × (x ≡ x') × (y ≡ y') × (z ≡ z')
color_ranges_lem n b p q = ranges p q
