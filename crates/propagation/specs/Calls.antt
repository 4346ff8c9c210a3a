-- What the public calls of this crate promise: full runs and runs from a point, with coloured and with binary cells.
use Rattle.std.specs.Prelude.{◌≡◌, Bool, true, not, ◌&&◌, List, [], ◌∷◌, ◌++◌, map, ℕ, ltb, length, Err, Ok}
use Rattle.rules.specs.Refusal.{Rule, ◌when◌, verdict, cell_rules, left, Verdict}
use Rattle.rules.specs.Binary.{set_by, cell_of}
use Rattle.rules.specs.Card.{Card}
use Rattle.rules.specs.CardRules.{card_rules}
use Rattle.rules.specs.Run.{room, Outcome, board_of, report_of}
use Rattle.rules.specs.declared.Refusal.{Refusal}
use Rattle.rules.specs.declared.Refusal.TheVariants.{OutsideGrid, ShortReport}
use Rattle.run.specs.Ends.{Reply, refusal, reply_to, end_of}
use Rattle.run.specs.declared.Start.{Start}
use Rattle.run.specs.declared.Start.TheVariants.{Full, Point}

-- ---- rules: 1 to 4 are those of the card; 5 for binary cells; 6; 7

-- the point, if there is one, lies in the grid
abbrev pub in_grid : ℕ → ℕ → Start → Bool
in_grid w h Full = true
in_grid w h (Point x y) = ltb x.0 w && ltb y.0 h

-- 6: the point lies outside the grid; 7: the report has fewer entries than the room number
abbrev pub end_rules : ℕ → ℕ → Start → ℕ → ℕ → List Rule
end_rules w h s report n = OutsideGrid when not (in_grid w h s) ∷ ShortReport when ltb report n ∷ []

-- the rules of a run with coloured cells, and with binary ones
abbrev pub run_rules : ℕ → ℕ → Start → Card → List ℕ → ℕ → ℕ → ℕ → List Rule
run_rules w h s c grid report memo stack = card_rules w h (length grid) c memo stack ++ end_rules w h s report (room grid)

abbrev pub binary_run_rules : ℕ → ℕ → Start → Card → List ℕ → ℕ → ℕ → ℕ → List Rule
binary_run_rules w h s c grid report memo stack =
    card_rules w h (length grid) c memo stack ++ (cell_rules grid ++ end_rules w h s report (room (map set_by grid)))

-- ---- answers

-- the reply by the rules and the run
abbrev pub run_reply : Verdict → Outcome → Reply
run_reply (Err w) o = refusal w
run_reply (Ok _) o = reply_to o

-- the grid after the call: as it stood, if the input is refused by checking
abbrev pub grid_left : Verdict → List ℕ → List ℕ → List ℕ
grid_left (Err w) b grid = grid
grid_left (Ok _) b grid = b

-- ---- the statement

-- what all calls promise, by their rules, the run's end and the board it leaves: the reply, and the grid and the report after the
-- call. After 0 or 8 the memo and the stack are left open
pub record Ran (rules : List Rule) (end : Outcome) (board grid report memo stack : List ℕ) (t : Reply)
    (grid' report' memo' stack' : List ℕ) : Type 0 where
  pub tells : t ≡ run_reply (verdict rules) end
  pub leaves : grid' ≡ grid_left (verdict rules) board grid
  pub reports : report' ≡ left (verdict rules) (report_of end) report
  pub kept_memo : (w : Refusal) → verdict rules ≡ Err w → memo' ≡ memo
  pub kept_stack : (w : Refusal) → verdict rules ≡ Err w → stack' ≡ stack
  pub long_memo : length memo' ≡ length memo
  pub long_stack : length stack' ≡ length stack

-- coloured cells
abbrev pub RunsColoured : ℕ → ℕ → Start → Card → List ℕ → List ℕ → List ℕ → List ℕ → Reply → List ℕ → List ℕ → List ℕ → List ℕ → Type 0
RunsColoured w h s c grid report memo stack =
    Ran (run_rules w h s c grid (length report) (length memo) (length stack)) (end_of w h s c grid)
    (board_of (end_of w h s c grid)) grid report memo stack

-- binary cells: the run is that of their sets, read back
abbrev pub RunsBinary : ℕ → ℕ → Start → Card → List ℕ → List ℕ → List ℕ → List ℕ → Reply → List ℕ → List ℕ → List ℕ → List ℕ → Type 0
RunsBinary w h s c grid report memo stack =
    Ran (binary_run_rules w h s c grid (length report) (length memo) (length stack)) (end_of w h s c (map set_by grid))
    (map cell_of (board_of (end_of w h s c (map set_by grid)))) grid report memo stack

-- ---- the kinds of cell of a grid

pub data Cells : Type 0 where
  set_cells : Cells
  binary_cells : Cells

-- the statement of each kind
abbrev pub RunsIn : Cells → ℕ → ℕ → Start → Card → List ℕ → List ℕ → List ℕ → List ℕ → Reply → List ℕ → List ℕ → List ℕ → List ℕ → Type 0
RunsIn set_cells = RunsColoured
RunsIn binary_cells = RunsBinary
