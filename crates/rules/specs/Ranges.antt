-- The range of each colour of a line: from the leftmost start of its first block to the leftmost end of its last plus the slack.
use Rattle.std.specs.Prelude.{◌≡◌, cond, List, [], ◌∷◌, ◌++◌, ℕ, suc, ◌+◌, ◌-◌, ◌≤◌, ◌<◌, eqb, get_or}
use Rattle.std.specs.List.{list_any}
use Rattle.rules.specs.Block.{Block, colours_by}
use Rattle.rules.specs.Placement.{Placement}
use Rattle.rules.specs.Packing.{minimal_space, starts_from, sums_from}

-- the numbers of a list, each once, by first appearance, but for those seen before
abbrev pub new_of : List ℕ → List ℕ → List ℕ
new_of seen [] = []
new_of seen (c ∷ l) = cond (list_any (λ d. eqb d c) seen) [] (c ∷ []) ++ new_of (seen ++ (c ∷ [])) l

-- the index of the first c of a list
abbrev pub first_of : ℕ → List ℕ → ℕ
first_of c [] = 0
first_of c (d ∷ l) = cond (eqb d c) 0 (suc (first_of c l))

-- the index of the last c of a list that begins at index i; k where there is none
abbrev pub last_of : ℕ → ℕ → ℕ → List ℕ → ℕ
last_of c k i [] = k
last_of c k i (d ∷ l) = last_of c (cond (eqb d c) i k) (suc i) l

-- the colours, each once, by first appearance
abbrev pub range_colours : List Block → List ℕ
range_colours bs = new_of [] (colours_by bs)

-- the first cell of the colour's range
abbrev pub range_start : List Block → ℕ → ℕ
range_start bs c = get_or (starts_from 0 bs) (first_of c (colours_by bs)) 0

-- the cell after the last of its range, in a line of length n
abbrev pub range_end : List Block → ℕ → ℕ → ℕ
range_end bs n c = get_or (sums_from 0 bs) (last_of c 0 0 (colours_by bs)) 0 + (n - minimal_space bs)

-- ---- the same by rules

-- in a line of length n some placement of the blocks gives the colour c to the first cell of the range, one to its last, and none to a cell
-- outside it; `to` is the cell after the last
pub record RangeOf (bs : List Block) (n c from to : ℕ) : Type 0 where
  pub some : from < to
  pub first : (l : List ℕ) × Placement bs n l × (get_or l from 0 ≡ c)
  pub last : (l : List ℕ) × Placement bs n l × (get_or l (to - 1) 0 ≡ c)
  pub only : (l : List ℕ) → Placement bs n l → (p : ℕ) → p < n → get_or l p 0 ≡ c → (from ≤ p) × (p < to)
