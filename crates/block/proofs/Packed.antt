-- The two uses of the loop that packs blocks, and how far it goes.
use mathlib.Core.Path.{◌≡◌, refl, ap}
use mathlib.Core.List.{List, [], ◌∷◌}
use Prim.Native.Nat.{ℕ, zero, suc, ◌+◌, ◌≤◌}
use native.Mathlib.Omega.{arith}
use lib.ListN.{length, get_or, replicate, length-append, length-replicate}
use Rattle.rules.specs.Packing.{next, total, sums_from, starts_from}
use Rattle.block.specs.Steps.{edges_from}
use Rattle.rules.specs.Block.{Block}
use Rattle.rules.specs.Placement.{gap, pieces}

pub edges_sums : (s : ℕ) (bs : List Block) → edges_from (λ start end. end) s bs ≡ sums_from s bs
edges_sums s [] = refl
edges_sums s (b ∷ bs) = ap (λ l. (s + b.size) ∷ l) (edges_sums (next s b bs) bs)

pub edges_starts : (s : ℕ) (bs : List Block) → edges_from (λ start end. start) s bs ≡ starts_from s bs
edges_starts s [] = refl
edges_starts s (b ∷ bs) = ap (λ l. s ∷ l) (edges_starts (next s b bs) bs)

pub length_edges : (f : ℕ → ℕ → ℕ) (s : ℕ) (bs : List Block) → length (edges_from f s bs) ≡ length bs
length_edges f s [] = refl
length_edges f s (b ∷ bs) = ap suc (length_edges f (next s b bs) bs)

-- no sum is above the minimal space
pub sums_low : (s : ℕ) (bs : List Block) (k : ℕ) → get_or (sums_from s bs) k 0 ≤ s + total (pieces bs)
sums_low s [] k = omega arith
sums_low s (b ∷ bs) zero =
    omega (arith, length-append (replicate b.size b.colour) (gap b.colour bs), length-replicate {A = ℕ} b.size b.colour)
sums_low s (b ∷ bs) (suc k) =
    omega (
      arith,
      sums_low (next s b bs) bs k,
      length-append (replicate b.size b.colour) (gap b.colour bs),
      length-replicate {A = ℕ}
          b.size b.colour,
    )
