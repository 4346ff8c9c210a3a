-- What the private functions say. A reader of the public calls needs none of it.
use Rattle.std.specs.Prelude.{◌≡◌, List, ℕ, ◌*◌, ◌≤◌, length}
use Rattle.std.proofs.lemmas.List.Edits.{sets}
use Rattle.rules.specs.Block.{Block, sizes_by, colours_by}
use Rattle.rules.specs.Card.{row_clues_of, column_clues_of, gathered, count_of}
use Rattle.clue.specs.Steps.{clue_in}
use Rattle.picture.specs.declared.view.Picture.{Picture}
use Rattle.loops.specs.Put.{Put}

-- the clues of the rows of a picture, and of its columns, as its codes are taken
abbrev pub row_clues : Picture → List (List Block)
row_clues p = row_clues_of (clue_in p.reading) p.width p.height p.codes.now

abbrev pub column_clues : Picture → List (List Block)
column_clues p = column_clues_of (clue_in p.reading) p.width p.height p.codes.now

pub record GridRoom (w h : ℕ) (rc rs cc cs : List ℕ) : Type 0 where
  pub row_counts : h ≤ length rc
  pub row_sizes : w * h ≤ length rs
  pub column_counts : w ≤ length cc
  pub column_sizes : w * h ≤ length cs

pub record CluesPut (rows columns : List (List Block)) (rc rs cc cs : List ℕ) (m n : ℕ) (rc' rs' cc' cs' : List ℕ) : Type 0 where
  pub row_counts : rc' ≡ sets rc 0 (gathered count_of rows)
  pub row_sizes : Put rs 0 (gathered sizes_by rows) m rs'
  pub column_counts : cc' ≡ sets cc 0 (gathered count_of columns)
  pub column_sizes : Put cs 0 (gathered sizes_by columns) n cs'

pub record ColoursPut (rows columns : List (List Block)) (rt ct rt' ct' : List ℕ) : Type 0 where
  pub row_colours : rt' ≡ sets rt 0 (gathered colours_by rows)
  pub column_colours : ct' ≡ sets ct 0 (gathered colours_by columns)
