-- What a list holds that was filled before a call.
use Rattle.std.specs.Prelude.{◌≡◌, ℕ, ◌+◌, ◌-◌, ◌%◌, ◌<◌, List, [], ◌∷◌, slice_index}

-- The entry at an index.
abbrev pub filler_at : ℕ → ℕ
filler_at index = 4000000000 - index % 65536

-- The same in a list of bytes.
abbrev pub byte_at : ℕ → ℕ → ℕ
byte_at turn index = slice_index (1 ∷ 2 ∷ 255 ∷ []) ((turn % 3 + index % 3) % 3)

-- The first n entries are filled.
pub record Filled (entry_at : ℕ → ℕ) (list : List ℕ) (n : ℕ) : Type 0 where
  pub holds : (k : ℕ) → k < n → slice_index list k ≡ entry_at k
