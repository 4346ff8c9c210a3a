-- A line's part of a right card is a legal clue.
use mathlib.Core.Path.{◌≡◌, refl}
use mathlib.Core.List.{List, [], ◌∷◌}
use Prim.Native.Nat.{ℕ, zero, suc, ◌≤◌}
use native.Mathlib.Omega.{arith}
use lib.ListN.{length, get_or, take, drop, length-take, length-drop}
use Rattle.rules.specs.Block.{blocks, Legal, legal_none, legal_block}
use Rattle.rules.specs.Card.{Card, sum, part, clue_of}
use Rattle.rules.specs.declared.LinePosition.{LinePosition}
use Rattle.rules.specs.declared.LinePosition.TheVariants.{Row, Column}
use Rattle.rules.proofs.Blocks.{test_legal}
use Rattle.card.specs.Steps.{sizes_at, colours_at, Direction, RightCard}

-- no colours, no blocks
blocks_none : (ns : List ℕ) → blocks ns [] ≡ []
blocks_none [] = refl
blocks_none (n ∷ ns) = refl

legal_take : (k : ℕ) (ns cs : List ℕ) → Legal (blocks ns cs) → Legal (blocks (take k ns) (take k cs))
legal_take zero ns cs o = legal_none
legal_take (suc k) [] cs o = legal_none
legal_take (suc k) (n ∷ ns) [] o = legal_none
legal_take (suc k) (n ∷ ns) (c ∷ cs) (legal_block s t d o) = legal_block s t d (legal_take k ns cs o)

legal_drop : (k : ℕ) (ns cs : List ℕ) → Legal (blocks ns cs) → Legal (blocks (drop k ns) (drop k cs))
legal_drop zero ns cs o = o
legal_drop (suc k) [] cs o = legal_none
legal_drop (suc k) (n ∷ ns) [] o = rw (blocks_none (drop k ns)) legal_none
legal_drop (suc k) (n ∷ ns) (c ∷ cs) (legal_block s t d o) = legal_drop k ns cs o

module _ {n : ℕ} {counts sizes colours : List ℕ} (d : Direction n counts sizes colours) (i : ℕ) where
  pub part_pairs : length (part counts i sizes) ≡ length (part counts i colours)
  part_pairs = simp (length-take, length-drop, d.pairs)

  pub part_few : length (part counts i sizes) ≤ 64
  part_few = omega (arith, length-take (get_or counts i 0) (drop (sum (take i counts)) sizes), d.few i)

  pub part_legal : Legal (blocks (part counts i sizes) (part counts i colours))
  part_legal =
      legal_take (get_or counts i 0) (drop (sum (take i counts)) sizes) (drop (sum (take i counts)) colours)
      (legal_drop (sum (take i counts)) sizes colours (test_legal (blocks sizes colours) d.legal))

module _ {w h : ℕ} {c : Card} (right : RightCard w h c) where
  pub clue_is : (l : LinePosition) → clue_of c l ≡ blocks (sizes_at l c) (colours_at l c)
  clue_is (Row y) = refl
  clue_is (Column x) = refl

  pub clue_pairs : (l : LinePosition) → length (sizes_at l c) ≡ length (colours_at l c)
  clue_pairs (Row y) = part_pairs right.rows y.0
  clue_pairs (Column x) = part_pairs right.columns x.0

  pub clue_few : (l : LinePosition) → length (sizes_at l c) ≤ 64
  clue_few (Row y) = part_few right.rows y.0
  clue_few (Column x) = part_few right.columns x.0

  pub clue_legal : (l : LinePosition) → Legal (clue_of c l)
  clue_legal (Row y) = part_legal right.rows y.0
  clue_legal (Column x) = part_legal right.columns x.0
