-- What the theorems about runs speak of: a call's own answer, whichever kind of cell it has.
use Rattle.std.specs.Prelude.{◌≡◌, ◌⊎◌, ◌≢◌, List, [], map, ℕ, take}
use Rattle.std.proofs.Math.Option.{some}
use Rattle.rules.specs.Answer.{Refused}
use Rattle.rules.specs.Binary.{set_by}
use Rattle.rules.specs.Board.{row, column, On, line_of, Stable}
use Rattle.rules.specs.Card.{Card, clue_of, Straight, solve_straight}
use Rattle.rules.specs.Run.{refused, Runs}
use Rattle.rules.specs.declared.LinePosition.{LinePosition}
use Rattle.rules.specs.declared.ColumnIndex.{ColumnIndex}
use Rattle.rules.specs.declared.RowIndex.{RowIndex}
use Rattle.run.specs.Ends.{Reply, start_stack}
use Rattle.run.specs.declared.Start.{Start}
use Rattle.run.specs.declared.Start.TheVariants.{Full, Point}
use Rattle.propagation.specs.Calls.{RunsColoured, RunsBinary}

-- a call on a board of sets and a report, its reply, and the board of sets and the report that it left
pub data Answered (w h : ℕ) (s : Start) (c : Card) : List ℕ → List ℕ → Reply → List ℕ → List ℕ → Type 0 where
  coloured : {grid report memo stack : List ℕ} {t : Reply} {grid' report' memo' stack' : List ℕ}
      → RunsColoured w h s c grid report memo stack t grid' report' memo' stack' → Answered w h s c grid report t grid' report'
  binary : {grid report memo stack : List ℕ} {t : Reply} {grid' report' memo' stack' : List ℕ}
      → RunsBinary w h s c grid report memo stack t grid' report' memo' stack' → Answered w h s c (map set_by grid) report t (map set_by grid') report'

-- it passed the checks: its number is 0 or 8
abbrev pub Passed : Reply → Type 0
Passed t = (t.number ≡ 0) ⊎ (t.number ≡ 8)

-- the placements of a card's lines
abbrev pub Placed : ℕ → ℕ → Card → LinePosition → List ℕ → Type 0
Placed w h c = Straight w h (clue_of c)

-- every line but the two through a point is stable
abbrev pub OthersStable : ℕ → ℕ → Card → ColumnIndex → RowIndex → List ℕ → Type 0
OthersStable w h c x y b = (l : LinePosition) → On w h l → l ≢ row y.0 → l ≢ column x.0 → Stable (Placed w h c) w h b l

-- what is asked of the start so that a run settles all of it: nothing for a full run
abbrev pub Fit : ℕ → ℕ → Start → Card → List ℕ → Type 0
Fit w h Full c b = Unit {0}
Fit w h (Point x y) c b = OthersStable w h c x y b

-- a refused run, of its reply and the board and the report that it left: the line that it names is one of the board, of which no placement
-- agrees with that board; and by the order rules the run comes to this line with this board, the first entries of this report, and as many
-- lines solved
pub record Halted (w h : ℕ) (s : Start) (c : Card) (b₀ : List ℕ) (t : Reply) (b report : List ℕ) : Type 0 where
  pub line : LinePosition
  pub names : t.line ≡ some line
  pub on : On w h line
  pub never : Refused (Placed w h c line) (line_of w h b line)
  pub before : Runs w h (solve_straight w h (clue_of c)) (start_stack w h s) b₀ [] 0 (refused line b (take t.entries report) t.lines)
