-- The binary reading: cells 0, 1, 2 (undefined, white, black) are the sets 3, 1, 2, and black is the colour 2.
use Rattle.std.specs.Prelude.{List, map, ℕ, zero, suc, length}
use Rattle.std.proofs.Math.Option.{Option, none, some}
use Rattle.rules.specs.Block.{Block, black}
use Rattle.rules.specs.Placement.{placements}
use Rattle.rules.specs.Answer.{answer}

-- the set that a binary cell is
abbrev pub set_by : ℕ → ℕ
set_by zero = 3
set_by (suc n) = suc n

-- the binary cell that a set is: 1 or 2 where it is that colour alone, else 0
abbrev pub cell_of : ℕ → ℕ
cell_of zero = 0
cell_of (suc zero) = 1
cell_of (suc (suc zero)) = 2
cell_of (suc (suc (suc n))) = 0

-- the answer of a line of coloured cells
abbrev pub line_answer : List Block → List ℕ → Option (List ℕ)
line_answer bs l = answer (placements bs (length l)) l

-- the answer of a line of binary cells is that of their sets, read back
abbrev pub read_back_of : Option (List ℕ) → Option (List ℕ)
read_back_of none = none
read_back_of (some m) = some (map cell_of m)

abbrev pub binary_answer : List ℕ → List ℕ → Option (List ℕ)
binary_answer sizes l = read_back_of (line_answer (map black sizes) (map set_by l))
