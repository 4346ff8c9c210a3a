-- What the private functions say. A reader of the public calls needs none of it.
use Rattle.std.specs.Prelude.{List, map, ℕ, ◌+◌, ◌≤◌, length}
use Rattle.rules.specs.Block.{Block}
use Rattle.rules.specs.Card.{count_of}
use Rattle.rules.specs.Clue.{clue, read_binary, black_clue}
use Rattle.clue.specs.declared.Field.{Field}
use Rattle.clue.specs.declared.Field.TheVariants.{Size, Colour}
use Rattle.clue.specs.declared.Ink.{Ink}
use Rattle.clue.specs.declared.Ink.TheVariants.{Coloured, Black}
use Rattle.clue.specs.declared.Part.{Part}
use Rattle.clue.specs.declared.Reading.{Reading}
use Rattle.clue.specs.declared.Part.TheVariants.{Count, Each}

-- a number of a block of n cells of the colour c, and of each of a line's blocks
abbrev pub field : Field → ℕ → ℕ → ℕ
field Size n c = n
field Colour n c = c

abbrev pub fields : Field → List Block → List ℕ
fields f bs = map (λ b. field f b.size b.colour) bs

-- the line is short, and the list has room for an entry a cell from index i on
pub record Writable (line out : List ℕ) (i : ℕ) : Type 0 where
  pub few : length line ≤ 64
  pub room : i + length line ≤ length out

-- a code as it is taken; the blank code is e
abbrev pub read_as : Ink → ℕ → ℕ → ℕ
read_as Coloured e c = c
read_as Black e c = read_binary e c

abbrev pub read_in : Reading → ℕ → ℕ
read_in r c = read_as r.ink r.blank c

-- the clue of a line, as its codes are taken
abbrev pub clue_as : Ink → ℕ → List ℕ → List Block
clue_as Coloured e l = clue e l
clue_as Black e l = black_clue e l

abbrev pub clue_in : Reading → List ℕ → List Block
clue_in r l = clue_as r.ink r.blank l

-- what a line gives to one of the lists, and how many entries that are at most, of n cells
abbrev pub entries : Part → List Block → List ℕ
entries Count bs = count_of bs
entries (Each f) bs = fields f bs

abbrev pub per : Part → ℕ → ℕ
per Count n = 1
per (Each f) n = n
