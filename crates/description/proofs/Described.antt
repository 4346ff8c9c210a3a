-- No more blocks are kept than there are.
use mathlib.Core.Bool.{Bool, true, false, cond}
use mathlib.Core.List.{List, [], ◌∷◌, ◌++◌}
use Prim.Native.Nat.{ℕ, suc, ◌≤◌}
use native.Mathlib.Omega.{arith}
use lib.ListN.{length}
use Rattle.rules.specs.Block.{Block}
use Rattle.rules.specs.Clue.{is_default, described}

pub length_described : (d : ℕ) (bs : List Block) → length (described d bs) ≤ length bs
length_described d [] = omega arith
length_described d (b ∷ bs) = go (is_default d b.size b.colour) (length_described d bs)
  where
    go : (t : Bool) → length (described d bs) ≤ length bs → length (cond t [] (b ∷ []) ++ described d bs) ≤ suc (length bs)
    go true h = omega arith
    go false h = omega arith
