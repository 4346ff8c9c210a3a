-- One line: which placements agree with it, and its answer. P says which lists of colours are placements: any set of them will do.
use Rattle.std.specs.Prelude.{◌≡◌, ◌≢◌, Bool, true, false, ◌&&◌, List, [], ◌∷◌, ℕ, T, length, get_or}
use Rattle.std.proofs.Math.Option.{Option, none, some}
use Rattle.std.specs.Int.Bits.{bit_or}
use Rattle.rules.specs.Colour.{Has, Subset, Colour, can_take}

-- a placement agrees with a line where each cell can take what the placement gives it
abbrev pub agrees : List ℕ → List ℕ → Bool
agrees [] [] = true
agrees [] (c ∷ p) = false
agrees (s ∷ l) [] = false
agrees (s ∷ l) (c ∷ p) = can_take s c && agrees l p

-- an agreeing placement
pub record Fitting (P : List ℕ → Type 0) (l p : List ℕ) : Type 0 where
  pub member : P p
  pub fits : T (agrees l p)

-- an agreeing placement gives cell i the colour 2 ^ k
pub record Shown (P : List ℕ → Type 0) (l : List ℕ) (i k : ℕ) : Type 0 where
  pub by : List ℕ
  pub ok : Fitting P l by
  pub gives : Has (get_or by i 0) k

-- two agreeing placements give cell i different colours
pub record Differing (P : List ℕ → Type 0) (l : List ℕ) (i : ℕ) : Type 0 where
  pub one : List ℕ
  pub other : List ℕ
  pub one_ok : Fitting P l one
  pub other_ok : Fitting P l other
  pub differ : get_or one i 0 ≢ get_or other i 0

-- no placement agrees with the line
pub record Refused (P : List ℕ → Type 0) (l : List ℕ) : Type 0 where
  pub never : (p : List ℕ) → Fitting P l p → ⊥

-- some placement agrees with the line l, and each cell of m is the union of what agreeing placements give it
pub record Exact (P : List ℕ → Type 0) (l m : List ℕ) : Type 0 where
  pub long : length m ≡ length l
  pub any : (p : List ℕ) × Fitting P l p
  pub sound : (i k : ℕ) → Has (get_or m i 0) k → Shown P l i k
  pub whole : (i k : ℕ) → Shown P l i k → Has (get_or m i 0) k

-- what a line's answer is: none exactly if no placement agrees
abbrev pub Answers : (List ℕ → Type 0) → List ℕ → Option (List ℕ) → Type 0
Answers P l none = Refused P l
Answers P l (some m) = Exact P l m

-- ---- the same computed from a list of placements

-- cell by cell, the colours of either
abbrev pub join : List ℕ → List ℕ → List ℕ
join [] m = m
join (a ∷ l) [] = a ∷ l
join (a ∷ l) (b ∷ m) = bit_or a b ∷ join l m

-- what the answer becomes when the placement p is counted in, if it agrees
abbrev pub count_in : Bool → List ℕ → Option (List ℕ) → Option (List ℕ)
count_in false p o = o
count_in true p none = some p
count_in true p (some m) = some (join p m)

abbrev pub answer : List (List ℕ) → List ℕ → Option (List ℕ)
answer [] l = none
answer (p ∷ ps) l = count_in (agrees l p) p (answer ps l)

-- ---- words for the laws

-- every cell of a placement has a single colour
abbrev pub Proper : List ℕ → Type 0
Proper [] = Unit {0}
Proper (c ∷ p) = Colour c × Proper p

-- one line or board lies within another where each cell's set does
pub record Within (l m : List ℕ) : Type 0 where
  pub long : length l ≡ length m
  pub each : (i : ℕ) → Subset (get_or l i 0) (get_or m i 0)
