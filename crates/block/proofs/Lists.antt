-- The blocks that lists lend, one by one.
use mathlib.Core.Path.{◌≡◌, refl}
use mathlib.Core.List.{List, [], ◌∷◌, map}
use Prim.Native.Nat.{ℕ, zero, suc, ◌<◌, min}
use native.Mathlib.Omega.{arith}
use lib.ListN.{length, get_or}
use Rattle.rules.specs.Block.{◌of◌, black, blocks}

pub length_blocks_min : (ns cs : List ℕ) → length (blocks ns cs) ≡ min (length ns) (length cs)
length_blocks_min [] cs = omega arith
length_blocks_min (n ∷ ns) [] = omega arith
length_blocks_min (n ∷ ns) (c ∷ cs) = omega (arith, length_blocks_min ns cs)

pub blocks_at : (ns cs : List ℕ) (i : ℕ) → i < length (blocks ns cs) → get_or (blocks ns cs) i (0 of 0) ≡ get_or ns i 0 of get_or cs i 0
blocks_at [] cs i h = absurd (omega arith)
blocks_at (n ∷ ns) [] i h = absurd (omega arith)
blocks_at (n ∷ ns) (c ∷ cs) zero h = refl
blocks_at (n ∷ ns) (c ∷ cs) (suc i) h = blocks_at ns cs i (omega arith)

pub black_at : (ns : List ℕ) (i : ℕ) → i < length (map black ns) → get_or (map black ns) i (0 of 0) ≡ black (get_or ns i 0)
black_at [] i h = absurd (omega arith)
black_at (n ∷ ns) zero h = refl
black_at (n ∷ ns) (suc i) h = black_at ns i (omega arith)
