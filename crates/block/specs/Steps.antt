-- What the private functions say. A reader of the public calls needs none of it.
use Rattle.std.specs.Prelude.{List, [], ◌∷◌, ℕ, ◌+◌, ◌≤◌, length}
use Rattle.rules.specs.Block.{Block}
use Rattle.rules.specs.Packing.{next}

-- few enough blocks that sums fit, and room for them
pub record Packable (bs : List Block) (out : List ℕ) : Type 0 where
  pub few : length bs ≤ 64
  pub room : length bs ≤ length out

-- what f makes of each block's first cell and the cell after its last, if the packing begins at cell s
abbrev pub edges_from : (ℕ → ℕ → ℕ) → ℕ → List Block → List ℕ
edges_from f s [] = []
edges_from f s (b ∷ bs) = f s (s + b.size) ∷ edges_from f (next s b bs) bs
