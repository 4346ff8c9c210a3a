-- Cards: per direction a list of counts, one a line, and the blocks of all lines, line after line. Each line's placements are those of its clue.
use Rattle.std.specs.Prelude.{List, [], ◌∷◌, ◌++◌, ℕ, zero, suc, ◌+◌, length, get_or, take, drop}
use Rattle.std.proofs.Math.Option.{Option}
use Rattle.rules.specs.Block.{Block, blacks, blocks}
use Rattle.rules.specs.Placement.{Placement, placements}
use Rattle.rules.specs.Answer.{answer}
use Rattle.rules.specs.Board.{row, column, len, line_of}
use Rattle.rules.specs.declared.LinePosition.{LinePosition}
use Rattle.rules.specs.declared.LinePosition.TheVariants.{Row, Column}

-- the six lists of a card
pub record Card : Type 0 where
  pub row_counts : List ℕ
  pub row_sizes : List ℕ
  pub row_colours : List ℕ
  pub column_counts : List ℕ
  pub column_sizes : List ℕ
  pub column_colours : List ℕ

-- the card of the six lent lists
abbrev pub card_of : List ℕ → List ℕ → List ℕ → List ℕ → List ℕ → List ℕ → Card
card_of rc rs rt cc cs ct = record { row_counts = rc; row_sizes = rs; row_colours = rt; column_counts = cc; column_sizes = cs; column_colours = ct }

-- the card of binary clues: every block is black
abbrev pub black_card : List ℕ → List ℕ → List ℕ → List ℕ → Card
black_card rc rs cc cs = card_of rc rs (blacks rs) cc cs (blacks cs)

abbrev pub sum : List ℕ → ℕ
sum [] = 0
sum (n ∷ ns) = n + sum ns

-- the part of a list that belongs to line i, by the counts
abbrev pub part : List ℕ → ℕ → List ℕ → List ℕ
part counts i l = take (get_or counts i 0) (drop (sum (take i counts)) l)

-- a line's clue is a part of the row lists or of the column lists
abbrev pub clue_of : Card → LinePosition → List Block
clue_of c (Row y) = blocks (part c.row_counts y.0 c.row_sizes) (part c.row_counts y.0 c.row_colours)
clue_of c (Column x) = blocks (part c.column_counts x.0 c.column_sizes) (part c.column_counts x.0 c.column_colours)

-- the placements of a straight line, and its answer
module _ (w h : ℕ) (clues : LinePosition → List Block) where
  abbrev pub Straight : LinePosition → List ℕ → Type 0
  Straight l p = Placement (clues l) (len w h l) p

  abbrev pub solve_straight : LinePosition → List ℕ → Option (List ℕ)
  solve_straight l c = answer (placements (clues l) (len w h l)) c

-- ---- the clues of a picture b of w by h codes, where f is the clue of a line

-- f k, f (k + 1), .. : n of them
abbrev pub lines_from : (ℕ → List Block) → ℕ → ℕ → List (List Block)
lines_from f k zero = []
lines_from f k (suc n) = f k ∷ lines_from f (suc k) n

abbrev pub row_clues_of : (List ℕ → List Block) → ℕ → ℕ → List ℕ → List (List Block)
row_clues_of f w h b = lines_from (λ y. f (line_of w h b (row y))) 0 h

abbrev pub column_clues_of : (List ℕ → List Block) → ℕ → ℕ → List ℕ → List (List Block)
column_clues_of f w h b = lines_from (λ x. f (line_of w h b (column x))) 0 w

-- one list of lines' clues, line after line: f is what a line gives to it, its count, its sizes or its colours
abbrev pub gathered : (List Block → List ℕ) → List (List Block) → List ℕ
gathered f [] = []
gathered f (bs ∷ l) = f bs ++ gathered f l

abbrev pub count_of : List Block → List ℕ
count_of bs = length bs ∷ []
