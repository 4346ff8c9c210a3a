-- The pieces fit a line exactly if it is as long as they are together.
use mathlib.Core.Path.{refl}
use mathlib.Core.Logic.{◌↔◌}
use mathlib.Core.List.{List, [], ◌∷◌, ◌++◌}
use Prim.Native.Nat.{ℕ, zero, suc, ◌-◌, ◌≤◌}
use native.Mathlib.Omega.{arith}
use lib.ListN.{length, replicate, length-append, length-replicate}
use Rattle.rules.specs.Block.{Block}
use Rattle.rules.specs.Placement.{Laid, end, blank, piece, Lay, Placement, pieces}
use Rattle.rules.specs.Packing.{total, minimal_space}

pub laid_long : {ps : List (List ℕ)} {l : List ℕ} → Laid ps l → total ps ≤ length l
laid_long end = omega arith
laid_long (blank d) = omega (arith, laid_long d)
laid_long (piece {p = p} {l = l} d) = omega (arith, laid_long d, length-append p l)

pub blank_line : (n : ℕ) → Lay [] n (replicate n 1)
blank_line zero = record { laid = end; long = refl }
blank_line (suc n) = record { laid = blank (blank_line n).laid; long = length-replicate (suc n) 1 }

pub packs : (ps : List (List ℕ)) (n : ℕ) → total ps ≤ n → (l : List ℕ) × Lay ps n l
packs [] n h = (replicate n 1, blank_line n)
packs (p ∷ ps) n h =
    let r = packs ps (n - length p) (omega arith) in
    (p ++ r.0, record { laid = piece r.1.laid; long = omega (arith, length-append p r.0, r.1.long) })

-- blocks have a placement in a line of length n exactly if their minimal space is at most n (else 10)
pub space_needed : (bs : List Block) (n : ℕ) → ((l : List ℕ) × Placement bs n l) ↔ (minimal_space bs ≤ n)
space_needed bs n = (λ p. omega (arith, laid_long p.1.laid, p.1.long), packs (pieces bs) n)
