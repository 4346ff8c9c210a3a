-- What the outcome of a test tells.
use mathlib.Core.Path.{◌≡◌, refl, sym}
use mathlib.Core.Bool.{Bool, true, false, cond, ◌&&◌}
use mathlib.Core.Logic.{◌⊎◌, inl, inr, ◌≢◌}
use Prim.Native.Nat.{ℕ, ◌<◌, ◌≤◌}
use native.Mathlib.Decide.{dec_lt}
use native.Mathlib.Omega.{arith}
use borrow.Author.Tests.{eqb-true, eqb-false, leb-true}
use lib.Dec.{eqb, leb}

-- two numbers are equal and their test says so, or they are not and it says that
abbrev pub Compared : ℕ → ℕ → Type 0
Compared a b = ((a ≡ b) × (eqb a b ≡ true)) ⊎ ((a ≢ b) × (eqb a b ≡ false))

pub nat_eq_cases : (a b : ℕ) → Compared a b
nat_eq_cases a b = go (eqb a b) refl
  where
    go : (t : Bool) → eqb a b ≡ t → Compared a b
    go true e = inl (eqb-true a b e, e)
    go false e = inr (eqb-false a b e, e)

-- a number is below another or not
pub below? {ℓ} : {P : Type ℓ} (a b : ℕ) → (a < b → P) → (b ≤ a → P) → P
below? a b f g = elim (dec_lt a b) [ yes h ↦ f h | no h ↦ g (omega arith) ]

pub true_not_false : true ≡ false → ⊥
true_not_false e = let z : ◌≡◌ {A = ℕ} 0 1 = cc in omega arith

pub both_true : (a b : Bool) → (a && b) ≡ true → (a ≡ true) × (b ≡ true)
both_true true true e = (refl, refl)
both_true true false e = absurd (true_not_false (sym e))
both_true false b e = absurd (true_not_false (sym e))

-- two lists have room
pub rooms : (n a b : ℕ) → (leb n a && leb n b) ≡ true → (n ≤ a) × (n ≤ b)
rooms n a b e = let p = both_true (leb n a) (leb n b) e in (leb-true n a p.0, leb-true n b p.1)

-- neither of two tests
pub cond_false : (t u : Bool) → cond t true u ≡ false → (t ≡ false) × (u ≡ false)
cond_false true u e = absurd (true_not_false e)
cond_false false u e = (refl, e)
