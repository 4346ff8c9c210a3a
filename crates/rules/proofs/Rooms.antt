-- The room number falls with every change.
use mathlib.Core.Path.{◌≡◌, sym, ap, ◌∙◌}
use mathlib.Core.Bool.{cond}
use mathlib.Core.Logic.{inl, inr, ◌≢◌}
use mathlib.Core.List.{List, [], ◌∷◌}
use Prim.Native.Nat.{ℕ, zero, suc, ◌+◌, ◌-◌, ◌≤◌, ◌<◌}
use native.Mathlib.Nat.{add-zero, not-suc-le-zero, le_of_suc-le-suc}
use native.Mathlib.Decide.{dec_lt}
use native.Mathlib.Omega.{arith}
use lib.Count.{ones}
use lib.Dec.{eqb}
use lib.ListN.{length, get_or, set, length-set}
use lib.Seq.{get_or-set_other}
use Rattle.rules.specs.Colour.{Subset}
use Rattle.rules.specs.Board.{put}
use Rattle.rules.specs.Run.{changed, room}
use Rattle.rules.proofs.Colours.{ones_mono, ones_strict}
use Rattle.rules.proofs.Answers.{full}
use Rattle.rules.proofs.Tests.{Compared, nat_eq_cases}

pub room_set : (b : List ℕ) (c a : ℕ) → c < length b → room (set b c a) + (ones (get_or b c 0) - 1) ≡ room b + (ones a - 1)
room_set [] c a h = absurd (not-suc-le-zero h)
room_set (s ∷ b) zero a h = omega arith
room_set (s ∷ b) (suc c) a h = omega (arith, room_set b c a (le_of_suc-le-suc h))

-- storing values that lie within the old ones, none of them empty: the room falls by the number of changes
pub room_put : (at : ℕ → ℕ) (j : ℕ) (c m b : List ℕ) → length m ≡ length c
    → ((i i' : ℕ) → i < j + length c → i' < j + length c → at i ≡ at i' → i ≡ i')
    → ((i : ℕ) → i < length c → at (j + i) < length b)
    → ((i : ℕ) → i < length c → get_or b (at (j + i)) 0 ≡ get_or c i 0)
    → ((i : ℕ) → i < length c → Subset (get_or m i 0) (get_or c i 0))
    → ((i : ℕ) → i < length c → 0 < ones (get_or m i 0))
    → room (put at j m b) + length (changed j c m) ≤ room b
room_put at j [] [] b e inj lt reads falls full = omega arith
room_put at j [] (x ∷ m) b e inj lt reads falls full = omega arith
room_put at j (a ∷ c) [] b e inj lt reads falls full = omega arith
room_put at j (a ∷ c) (x ∷ m) b e inj lt reads falls full =
    go (nat_eq_cases a x)
    (room_put at (suc j) c m (set b (at j) x) (omega arith) (λ i i' p q. inj i i' (omega arith) (omega arith))
    (λ i p. rw length-set (rw (shift i) (lt (suc i) (omega arith))))
    (λ i p.
    get_or-set_other b (at j) (at (suc j + i)) x 0 (λ u. omega (arith, inj (suc j + i) j (omega arith) (omega arith) u))
    ∙ rw (shift i) (reads (suc i) (omega arith)))
    (λ i p. falls (suc i) (omega arith))
    (λ i p. full (suc i) (omega arith)))
  where
    shift : (i : ℕ) → suc j + i ≡ j + suc i
    shift i = omega arith

    one : room (set b (at j) x) + (ones a - 1) ≡ room b + (ones x - 1)
    one =
        let r : get_or b (at j) 0 ≡ a = rw add-zero at (reads 0 (omega arith)) in
        rw r at (room_set b (at j) x (rw add-zero at (lt 0 (omega arith))))

    less : ones x ≤ ones a
    less = ones_mono x a (falls 0 (omega arith))

    strict : a ≢ x → Dec (ones x < ones a) → ones x < ones a
    strict d (yes q) = q
    strict d (no f) = absurd (d (sym (ones_strict a x (falls 0 (omega arith)) (omega arith))))

    go : Compared a x
        → room (put at (suc j) m (set b (at j) x)) + length (changed (suc j) c m) ≤ room (set b (at j) x)
        → room (put at (suc j) m (set b (at j) x)) + length (cond (eqb a x) (changed (suc j) c m) (j ∷ changed (suc j) c m)) ≤ room b
    go (inl p) up = rw p.1 (omega (arith, one, ap ones p.0))
    go (inr p) up = rw p.1 (omega (arith, one, strict p.0 (dec_lt (ones x) (ones a)), full 0 (omega arith)))
