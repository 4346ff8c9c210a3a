-- Blocks, which of them are legal, and the lists that lend them.
use Rattle.std.specs.Prelude.{◌≢◌, Bool, true, cond, not, List, [], ◌∷◌, map, ℕ, ◌<◌, eqb, length}
use Rattle.std.specs.List.{list_any}
use Rattle.std.specs.Int.Count.{ones}
use Rattle.rules.specs.Colour.{Colour}

-- a block has a size and a colour
pub record Block : Type 0 where
  pub size : ℕ
  pub colour : ℕ

-- a block of n cells of the colour c
abbrev pub ◌of◌ : ℕ → ℕ → Block
◌of◌ n c = record { size = n; colour = c }

infix 90 ◌of◌
-- a binary block is black, the colour 2
abbrev pub black : ℕ → Block
black n = n of 2

-- the colours of black blocks of these sizes
abbrev pub blacks : List ℕ → List ℕ
blacks sizes = map (λ n. 2) sizes

-- the sizes of blocks, and their colours
abbrev pub sizes_by : List Block → List ℕ
sizes_by bs = map (λ b. b.size) bs

abbrev pub colours_by : List Block → List ℕ
colours_by bs = map (λ b. b.colour) bs

-- the blocks that a list of sizes and a list of colours hold
abbrev pub blocks : List ℕ → List ℕ → List Block
blocks [] cs = []
blocks (n ∷ ns) [] = []
blocks (n ∷ ns) (c ∷ cs) = n of c ∷ blocks ns cs

-- ---- legal blocks: a size of at least 1, and a colour with exactly one bit set that is not blank

pub data Legal : List Block → Type 0 where
  legal_none : Legal []
  legal_block : {b : Block} {bs : List Block} → 0 < b.size → Colour b.colour → b.colour ≢ 1 → Legal bs → Legal (b ∷ bs)

-- the same as a test: a colour that is 1, or has not exactly one bit; a block with that, or of size 0; such a block in a list
abbrev pub illegal_colour_of : ℕ → Bool
illegal_colour_of c = cond (eqb c 1) true (not (eqb (ones c) 1))

abbrev pub illegal_block : ℕ → ℕ → Bool
illegal_block n c = cond (eqb n 0) true (illegal_colour_of c)

abbrev pub illegal : List Block → Bool
illegal = list_any (λ b. illegal_block b.size b.colour)

-- ---- a line's blocks as they are lent: in two lists, which have to have one length, or in one list of sizes

pub record Lent : Type 0 where
  pub paired : Bool
  pub list : List Block

abbrev pub coloured : List ℕ → List ℕ → Lent
coloured sizes colours = record { paired = eqb (length sizes) (length colours); list = blocks sizes colours }

abbrev pub binary : List ℕ → Lent
binary sizes = record { paired = true; list = map black sizes }
