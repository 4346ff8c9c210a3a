-- Laws of `Added`: no colour is taken away, and what is added is covered.
use mathlib.Core.Path.{◌≡◌}
use mathlib.Core.List.{List}
use Prim.Native.Nat.{ℕ, ◌≤◌, ◌<◌}
use native.Mathlib.Omega.{arith}
use lib.ListN.{get_or}
use Rattle.rules.proofs.Tests.{below?}
use Rattle.rules.proofs.Colours.{has_left, has_right}
use Rattle.filling.specs.Steps.{Added, Covered, Grows}

module _ {o o' : List ℕ} {a e : ℕ} {h : ℕ → ℕ} (A : Added o o' a e h) where
  pub added_grows : Grows o o'
  unfolding Grows
  added_grows i k b = below? i a
      (λ l. rw (A.outside i (λ u v. omega arith)) b)
      (λ p. below? i e
      (λ q. rw (A.inside i p q) (has_left (h i) b))
      (λ q. rw (A.outside i (λ u v. omega arith)) b))

  pub added_covers : (f : ℕ → ℕ) → Covered o a f → ((i : ℕ) → a ≤ i → i < e → f i ≡ h i) → Covered o' e f
  unfolding Covered Grows
  added_covers f C same i l k b = below? i a
      (λ q. added_grows i k (C i q k b))
      (λ p. rw (A.inside i p l) (has_right (get_or o i 0) (rw (same i p l) at b)))
