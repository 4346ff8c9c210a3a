-- What it tells that no number of a list passes a test.
use Rattle.std.proofs.lemmas.Bool.{or_parts}
use mathlib.Core.Path.{◌≡◌, refl}
use mathlib.Core.Bool.{Bool, false}
use mathlib.Core.List.{List, [], ◌∷◌, ◌++◌}
use Prim.Native.Nat.{ℕ, zero, suc, ◌≤◌, ◌<◌}
use native.Mathlib.Omega.{arith}
use borrow.Author.Tests.{ltb-false, le-ltb}
use lib.Dec.{ltb}
use lib.ListN.{length, get_or}
use Rattle.std.specs.List.{list_any}

-- where no entry of a list passes a test, none of either part does
pub any_parts : (f : ℕ → Bool) (xs ys : List ℕ) → list_any f (xs ++ ys) ≡ false → (list_any f xs ≡ false) × (list_any f ys ≡ false)
any_parts f [] ys e = (refl, e)
any_parts f (d ∷ xs) ys e =
    let p = or_parts (f d) (list_any f (xs ++ ys)) e in
    let q = any_parts f xs ys p.1 in
    (rw p.0 q.0, q.1)

-- no number of the list is above n
pub not_above : (n : ℕ) (l : List ℕ) → list_any (λ k. ltb n k) l ≡ false → (i : ℕ) → get_or l i 0 ≤ n
not_above n [] e i = omega arith
not_above n (k ∷ l) e zero = let p = or_parts (ltb n k) (list_any (λ m. ltb n m) l) e in ltb-false n k p.0
not_above n (k ∷ l) e (suc i) = let p = or_parts (ltb n k) (list_any (λ m. ltb n m) l) e in not_above n l p.1 i

pub none_above : (n : ℕ) (l : List ℕ) → ((i : ℕ) → i < length l → get_or l i 0 ≤ n) → list_any (λ k. ltb n k) l ≡ false
none_above n [] f = refl
none_above n (k ∷ l) f = rw (le-ltb n k (f 0 (omega arith))) (none_above n l (λ i h. f (suc i) (omega arith)))
