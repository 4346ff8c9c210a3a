-- What each public call of this crate promises: 1, 2, and 9 of colours. e is the blank code.
use Rattle.std.specs.Prelude.{Bool, not, ◌&&◌, List, [], ◌∷◌, ◌++◌, ℕ, leb, length, Result}
use Rattle.rules.specs.Block.{sizes_by}
use Rattle.rules.specs.Clue.{clue, bad_code_of, black_clue}
use Rattle.rules.specs.Refusal.{Rule, ◌when◌, length_rules, Writes, WritesBlocks}
use Rattle.rules.specs.declared.Refusal.{Refusal}
use Rattle.rules.specs.declared.Refusal.TheVariants.{BadRoom, BadCode}

-- 2: a list has the wrong length or too little room
abbrev pub room_rules : Bool → List Rule
room_rules fits = BadRoom when not fits ∷ []

-- the same; 9: a code is not allowed
abbrev pub code_rules : Bool → Bool → List Rule
code_rules fits bad = room_rules fits ++ (BadCode when bad ∷ [])

-- room for as many blocks as the line is long
abbrev pub ColouredClue : ℕ → List ℕ → List ℕ → List ℕ → Result ℕ Refusal → List ℕ → List ℕ → Type 0
ColouredClue e codes sizes colours =
    WritesBlocks
    (length_rules (length codes) ++ code_rules (leb (length codes) (length sizes) && leb (length codes) (length colours)) (bad_code_of e codes))
    (clue e codes) sizes colours

-- of any codes
abbrev pub BinaryClue : ℕ → List ℕ → List ℕ → Result ℕ Refusal → List ℕ → Type 0
BinaryClue e codes sizes =
    Writes (length_rules (length codes) ++ room_rules (leb (length codes) (length sizes))) (sizes_by (black_clue e codes)) sizes
