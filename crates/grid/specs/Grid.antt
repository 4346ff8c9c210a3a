-- What is asked of a grid, and what storing a line leaves.
use Rattle.std.specs.Prelude.{◌≡◌, List, map, ℕ, ◌+◌, ◌*◌, ◌≤◌, ◌<◌, length}
use Rattle.rules.specs.Board.{len, On, place, line_of, store}
use Rattle.rules.specs.Run.{changed}
use Rattle.rules.specs.declared.LinePosition.{LinePosition}
use Rattle.loops.specs.Put.{Put}
use Rattle.grid.specs.declared.report.Report.{Report}

-- a list is a grid of w by h cells, its sides 1 to 64
pub record Grid (w h : ℕ) (b : List ℕ) : Type 0 where
  pub wide : 0 < w
  pub wide_most : w ≤ 64
  pub high : 0 < h
  pub high_most : h ≤ 64
  pub size : length b ≡ w * h

-- the indexes at which a line of the grid and its answer differ, and those cells' numbers
abbrev pub changes : ℕ → ℕ → LinePosition → List ℕ → List ℕ → List ℕ
changes w h l m b = changed 0 (line_of w h b l) m

abbrev pub news : ℕ → ℕ → LinePosition → List ℕ → List ℕ → List ℕ
news w h l m b = map (place w l) (changes w h l m b)

-- these numbers are added to the report, which is still in the same lent list
pub record Reports (r : Report) (vs : List ℕ) (r' : Report) : Type 0 where
  pub same : r'.cells.ghost_name ≡ r.cells.ghost_name
  pub puts : Put r.cells.now r.count vs r'.count r'.cells.now

-- the line's answer m can be stored: the report has room for its changes
pub record Storable (w h : ℕ) (l : LinePosition) (m b : List ℕ) (r : Report) : Type 0 where
  pub grid : Grid w h b
  pub on : On w h l
  pub exact : length m ≡ len w h l
  pub room : r.count + length (changes w h l m b) ≤ length r.cells.now

-- the line is stored, and the changed cells' numbers are reported
pub record Stored (w h : ℕ) (l : LinePosition) (m b : List ℕ) (r : Report) (b' : List ℕ) (r' : Report) : Type 0 where
  pub board : b' ≡ store w l m b
  pub reports : Reports r (news w h l m b) r'
