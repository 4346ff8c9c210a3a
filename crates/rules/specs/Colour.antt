-- Colour sets: a cell is a set of colours, written as a number with a binary digit for each. Bit 0, the number 1, is blank.
use Rattle.std.specs.Prelude.{◌≡◌, Bool, not, ℕ, zero, suc, ◌/◌, ◌%◌, ◌^◌, eqb}
use Rattle.std.specs.Int.Bits.{bit_and}

-- binary digit k of the number s, the lowest first
abbrev pub bit : ℕ → ℕ → ℕ
bit zero s = s % 2
bit (suc k) s = bit k (s / 2)

-- the colour 2 ^ k is in the set s
pub record Has (s k : ℕ) : Type 0 where
  pub on : bit k s ≡ 1

-- every colour of the set s is one of t
abbrev pub Subset : ℕ → ℕ → Type 0
Subset s t = (k : ℕ) → Has s k → Has t k

-- the number c is a single colour: exactly one bit is set
abbrev pub Colour : ℕ → Type 0
Colour c = (k : ℕ) × (c ≡ 2 ^ k)

-- a cell can take a colour where the two share a bit
abbrev pub can_take : ℕ → ℕ → Bool
can_take s c = not (eqb (bit_and s c) 0)
