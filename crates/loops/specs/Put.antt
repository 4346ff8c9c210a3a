-- What a loop that writes a list leaves.
use Rattle.std.specs.Prelude.{◌≡◌, List, ℕ, ◌+◌, length}
use Rattle.std.proofs.lemmas.List.Edits.{sets}

-- the values vs stand in the list from index i on, r is the index after them, and the rest is as it was
pub record Put (out : List ℕ) (i : ℕ) (vs : List ℕ) (r : ℕ) (out' : List ℕ) : Type 0 where
  pub end : r ≡ i + length vs
  pub holds : out' ≡ sets out i vs
