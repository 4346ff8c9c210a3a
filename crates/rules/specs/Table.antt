-- The small table: the cases that document 01 marks, each with its answer: the number, and with 0 the values.
use Rattle.std.specs.Prelude.{cond, List, [], ◌∷◌, ℕ}
use Rattle.std.proofs.Math.Option.{Option, none, some}
use Rattle.rules.specs.Block.{Block, ◌of◌, sizes_by}
use Rattle.rules.specs.Binary.{line_answer, binary_answer}
use Rattle.rules.specs.Clue.{clue, bad_code_of, black_clue}

-- what may be asked: a line's answer, by its blocks and cells, or a line's clue with blank 1
pub data Question : Type 0 where
  binary_line : List ℕ → List ℕ → Question
  coloured_line : List Block → List ℕ → Question
  binary_clue : List ℕ → Question
  coloured_clue : List ℕ → Question

-- a line's answer by number: 8 where no placement agrees
abbrev pub solved : Option (List ℕ) → List ℕ
solved none = 8 ∷ []
solved (some m) = 0 ∷ m

-- size and colour of each block, one after the other
abbrev pub flat : List Block → List ℕ
flat [] = []
flat (b ∷ bs) = b.size ∷ b.colour ∷ flat bs

abbrev pub answer_to : Question → List ℕ
answer_to (binary_line sizes l) = solved (binary_answer sizes l)
answer_to (coloured_line bs l) = solved (line_answer bs l)
answer_to (binary_clue l) = 0 ∷ sizes_by (black_clue 1 l)
answer_to (coloured_clue l) = cond (bad_code_of 1 l) (9 ∷ []) (0 ∷ flat (clue 1 l))

pub record Case : Type 0 where
  pub asked : Question
  pub told : List ℕ

abbrev pub ◌gives◌ : Question → List ℕ → Case
◌gives◌ q o = record { asked = q; told = o }

infix 80 ◌gives◌
abbrev pub table : List Case
table =
    binary_line [] (0 ∷ []) gives (0 ∷ 1 ∷ [])
    ∷ binary_line (1 ∷ []) (1 ∷ []) gives (8 ∷ [])
    ∷ binary_line (2 ∷ []) (0 ∷ 0 ∷ 0 ∷ []) gives (0 ∷ 0 ∷ 2 ∷ 0 ∷ [])
    ∷ binary_line (1 ∷ 1 ∷ []) (0 ∷ 0 ∷ 0 ∷ []) gives (0 ∷ 2 ∷ 1 ∷ 2 ∷ [])
    ∷ binary_line (1 ∷ 1 ∷ []) (0 ∷ 0 ∷ []) gives (8 ∷ [])
    ∷ binary_line (1 ∷ 1 ∷ []) (0 ∷ 2 ∷ 0 ∷ 0 ∷ []) gives (0 ∷ 1 ∷ 2 ∷ 1 ∷ 2 ∷ [])
    ∷ coloured_line (1 of 2 ∷ 1 of 4 ∷ []) (7 ∷ 7 ∷ []) gives (0 ∷ 2 ∷ 4 ∷ [])
    ∷ coloured_line (1 of 2 ∷ 1 of 4 ∷ []) (7 ∷ 7 ∷ 7 ∷ []) gives (0 ∷ 3 ∷ 7 ∷ 5 ∷ [])
    ∷ coloured_line (1 of 2 ∷ 1 of 2 ∷ []) (7 ∷ 7 ∷ []) gives (8 ∷ [])
    ∷ coloured_line (1 of 2 ∷ []) (0 ∷ []) gives (8 ∷ [])
    ∷ coloured_line [] (7 ∷ []) gives (0 ∷ 1 ∷ [])
    ∷ coloured_line (1 of 2 ∷ []) (6 ∷ 7 ∷ []) gives (0 ∷ 2 ∷ 1 ∷ [])
    ∷ binary_clue (2 ∷ 2 ∷ 1 ∷ 2 ∷ []) gives (0 ∷ 2 ∷ 1 ∷ [])
    ∷ coloured_clue (2 ∷ 4 ∷ []) gives (0 ∷ 1 ∷ 2 ∷ 1 ∷ 4 ∷ [])
    ∷ binary_clue (2 ∷ 4 ∷ []) gives (0 ∷ 2 ∷ [])
    ∷ []
