-- The leftmost packing: a gap of 1 before a block of its left neighbour's colour, else 0.
use Rattle.std.specs.Prelude.{List, [], ◌∷◌, ℕ, ◌+◌, ◌-◌, length}
use Rattle.rules.specs.Block.{Block}
use Rattle.rules.specs.Placement.{gap, pieces}

-- the cells that the pieces take
abbrev pub total : List (List ℕ) → ℕ
total [] = 0
total (p ∷ ps) = length p + total ps

-- minimal space: the length of the packing
abbrev pub minimal_space : List Block → ℕ
minimal_space bs = total (pieces bs)

-- where the block after b begins, if b begins at cell s
abbrev pub next : ℕ → Block → List Block → ℕ
next s b bs = s + b.size + length (gap b.colour bs)

-- the blocks' first cells, if the packing begins at cell s
abbrev pub starts_from : ℕ → List Block → List ℕ
starts_from s [] = []
starts_from s (b ∷ bs) = s ∷ starts_from (next s b bs) bs

-- the cells after their last: the partial sums
abbrev pub sums_from : ℕ → List Block → List ℕ
sums_from s [] = []
sums_from s (b ∷ bs) = (s + b.size) ∷ sums_from (next s b bs) bs

-- how many positions the packing has in a line of length n that is long enough
abbrev pub positions : ℕ → List Block → ℕ
positions n bs = n - minimal_space bs + 1
