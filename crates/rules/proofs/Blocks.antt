-- Blocks in two lists, one block at a time; and the test of rule 4, which is false exactly of legal blocks.
use Rattle.std.specs.Prelude.{◌||◌}
use Rattle.std.specs.List.{list_any, zip}
use Rattle.std.proofs.lemmas.Bool.{or_parts}
use mathlib.Core.Path.{◌≡◌, refl, sym, ap, ap₂, ◌∙◌}
use mathlib.Core.Logic.{◌≢◌}
use mathlib.Core.Bool.{Bool, true, false, cond, not}
use mathlib.Core.List.{List, [], ◌∷◌, map}
use Prim.Native.Nat.{ℕ, zero, suc, ◌+◌, ◌≤◌, ◌<◌}
use native.Mathlib.Numerals.{add-one}
use native.Mathlib.Omega.{arith}
use borrow.Author.Tests.{eqb-true, eqb-false, not-false, ne_eqb}
use lib.Count.{ones}
use lib.Dec.{eqb}
use lib.ListN.{length, take, drop, get_or, replicate, drop_of_length-le}
use lib.Seq.{drop-cons}
use Rattle.rules.specs.Colour.{Colour}
use Rattle.rules.specs.Block.{Block, ◌of◌, black, blacks, sizes_by, colours_by, blocks, Legal, legal_none, legal_block, illegal_colour_of, illegal_block, illegal}
use Rattle.rules.proofs.Tests.{cond_false}
use Rattle.rules.proofs.Colours.{one_colour, ones_pow}

-- ---- the two lists

pub length_blocks : (ns cs : List ℕ) → length ns ≡ length cs → length (blocks ns cs) ≡ length ns
length_blocks [] cs e = refl
length_blocks (n ∷ ns) [] e = absurd (omega arith)
length_blocks (n ∷ ns) (c ∷ cs) e = ap suc (length_blocks ns cs (omega arith))

module _ (ns cs : List ℕ) (i : ℕ) where
  pub blocks_step : i < length ns → length ns ≡ length cs
      → blocks (drop i ns) (drop i cs) ≡ get_or ns i 0 of get_or cs i 0 ∷ blocks (drop (i + 1) ns) (drop (i + 1) cs)
  blocks_step h e = rw (add-one i, drop-cons ns i 0 h, drop-cons cs i 0 (omega arith))

  pub blocks_end : length ns ≤ i → blocks (drop i ns) (drop i cs) ≡ []
  blocks_end h = rw (drop_of_length-le ns h)

pub blocks_back : (bs : List Block) → blocks (sizes_by bs) (colours_by bs) ≡ bs
blocks_back [] = refl
blocks_back (b ∷ bs) = ap (λ l. b ∷ l) (blocks_back bs)

pub colours_back : (ns cs : List ℕ) → length ns ≡ length cs → colours_by (blocks ns cs) ≡ cs
colours_back [] [] e = refl
colours_back [] (c ∷ cs) e = absurd (omega arith)
colours_back (n ∷ ns) [] e = absurd (omega arith)
colours_back (n ∷ ns) (c ∷ cs) e = ap (λ l. c ∷ l) (colours_back ns cs (omega arith))

-- ---- legality

pub legal_colour : (c : ℕ) → illegal_colour_of c ≡ false → Colour c × (c ≢ 1)
legal_colour c e =
    let p = cond_false (eqb c 1) (not (eqb (ones c) 1)) e in
    (one_colour c (eqb-true (ones c) 1 (not-false (eqb (ones c) 1) p.1)), eqb-false c 1 p.0)

pub colour_legal : (c : ℕ) → Colour c → c ≢ 1 → illegal_colour_of c ≡ false
colour_legal c k d = rw (ne_eqb c 1 d, ap ones k.1 ∙ ones_pow k.0)

pub test_legal : (bs : List Block) → illegal bs ≡ false → Legal bs
test_legal [] e = legal_none
test_legal (b ∷ bs) e =
    let p = or_parts (illegal_block b.size b.colour) (illegal bs) e in
    let q = cond_false (eqb b.size 0) (illegal_colour_of b.colour) p.0 in
    let k = legal_colour b.colour q.1 in
    let z = eqb-false b.size 0 q.0 in
    legal_block {b = b} (omega (arith, z)) k.0 k.1 (test_legal bs p.1)

pub legal_test : {bs : List Block} → Legal bs → illegal bs ≡ false
legal_test legal_none = refl
legal_test (legal_block {b = b} s c d o) = rw (ne_eqb b.size 0 (λ e. omega arith), colour_legal b.colour c d) (legal_test o)

-- ---- black blocks, which are what a binary list lends

pub blacks_take : (ns : List ℕ) (k : ℕ) → length ns ≤ k → take (length ns) (replicate k 2) ≡ blacks ns
blacks_take [] k h = refl
blacks_take (n ∷ ns) zero h = absurd (omega arith)
blacks_take (n ∷ ns) (suc k) h = ap (λ l. 2 ∷ l) (blacks_take ns k (omega arith))

pub sizes_back : (ns : List ℕ) → sizes_by (map black ns) ≡ ns
sizes_back [] = refl
sizes_back (n ∷ ns) = ap (λ l. n ∷ l) (sizes_back ns)

pub blacks_blocks : (ns : List ℕ) → blocks ns (blacks ns) ≡ map black ns
blacks_blocks [] = refl
blacks_blocks (n ∷ ns) = ap (λ l. black n ∷ l) (blacks_blocks ns)

-- some block of two lists is not legal where some size and colour beside one another make none
pub paired_any : (ns cs : List ℕ) → list_any (λ p. illegal_block p.0 p.1) (zip ns cs) ≡ illegal (blocks ns cs)
paired_any [] cs = refl
paired_any (n ∷ ns) [] = refl
paired_any (n ∷ ns) (c ∷ cs) = ap (λ b. illegal_block n c || b) (paired_any ns cs)

-- a black block is legal unless it is empty
black_block : (n : ℕ) → illegal_block n 2 ≡ eqb n 0
black_block n = rw (colour_legal 2 (1, refl) (λ e. omega arith)) (itself (eqb n 0))
  where
    itself : (t : Bool) → cond t true false ≡ t
    itself true = refl
    itself false = refl

-- some black block is not legal where some size is 0
pub black_any : (ns : List ℕ) → list_any (λ n. eqb n 0) ns ≡ illegal (map black ns)
black_any [] = refl
black_any (n ∷ ns) = ap₂ (λ a b. a || b) (sym (black_block n)) (black_any ns)
