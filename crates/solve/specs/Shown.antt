-- What a person is shown of a cell: a word, as the number that its letters are in base 256.
use Rattle.std.specs.Prelude.{ℕ, Bool, true, false, cond, not, List, ◌==◌, count_ones, count_by}
use Rattle.std.specs.Int.Count.{count_trailing_zeros}
use Rattle.rules.specs.Binary.{set_by}
use Rattle.non.specs.Colours.{word_at}

-- the set that a cell is, on a coloured card or on another
abbrev pub set_shown : Bool → ℕ → ℕ
set_shown true c = c
set_shown false c = set_by c

-- the cell is not known: its set has not exactly one colour
abbrev pub is_open : ℕ → Bool
is_open s = not (count_ones s == 1)

-- how many cells are open
abbrev pub open_in : Bool → List ℕ → ℕ
open_in k l = count_by (λ c. is_open (set_shown k c)) l

-- an open cell is `?`, and any other the word of its colour: `.` for blank, and `#` for black
abbrev pub shown : List ℕ → ℕ → ℕ
shown words s = cond (is_open s) 63 (word_at words (count_trailing_zeros 32 s))
