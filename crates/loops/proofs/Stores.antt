-- What stands where after a run of stores, and the turns of a loop that reads a list from the front.
use mathlib.Core.Path.{◌≡◌, ap, ◌∙◌}
use mathlib.Core.List.{List, [], ◌∷◌, ◌++◌, append-nil}
use Prim.Native.Nat.{ℕ, ◌+◌, ◌≤◌, ◌<◌}
use native.Mathlib.Numerals.{add-one}
use native.Mathlib.Omega.{arith}
use lib.ListN.{length, get_or, take, drop, drop_of_length-le}
use lib.Seq.{sets, get_or-take, drop-cons, length-take-le, take-append_seam}
use Rattle.loops.proofs.Going.{written_sets}

-- ---- the list after values were stored from its front on

-- the first entries are the values that were stored there
pub take_sets : (vs l : List ℕ) → length vs ≤ length l → take (length vs) (sets l 0 vs) ≡ vs
take_sets vs l h = ap (λ t. take (length vs) t) (written_sets vs l h) ∙ take-append_seam vs (drop (length vs) l)

-- as many values as the list is long
pub sets_whole : (vs l : List ℕ) → length vs ≡ length l → sets l 0 vs ≡ vs
sets_whole vs l e = written_sets vs l (omega arith) ∙ ap (λ t. vs ++ t) (drop_of_length-le l {i = length vs} (omega arith)) ∙ append-nil vs

-- ---- what is left of a list that is read from the front

pub drop_step : (l : List ℕ) (i : ℕ) → i < length l → drop i l ≡ get_or l i 0 ∷ drop (i + 1) l
drop_step l i h = rw (add-one i) (drop-cons l i 0 h)

-- the same of its first n entries
pub take_step : (n : ℕ) (l : List ℕ) (i : ℕ) → i < n → n ≤ length l → drop i (take n l) ≡ get_or l i 0 ∷ drop (i + 1) (take n l)
take_step n l i h r =
    drop_step (take n l) i (omega (arith, length-take-le n l r)) ∙ ap (λ x. x ∷ drop (i + 1) (take n l)) (get_or-take n l i 0 h)

pub take_end : (n : ℕ) (l : List ℕ) (i : ℕ) → n ≤ i → n ≤ length l → drop i (take n l) ≡ []
take_end n l i h r = drop_of_length-le (take n l) {i = i} (omega (arith, length-take-le n l r))
