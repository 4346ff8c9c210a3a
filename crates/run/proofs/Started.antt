-- How a judged run begins, and that its end is the one that the order rules give; every entry of its report costs a colour.
use Rattle.std.specs.Prelude.{Result}
use mathlib.Core.Path.{◌≡◌, refl, ap₂, ◌∙◌, subst}
use mathlib.Core.List.{List, []}
use Prim.Native.Nat.{ℕ, ◌+◌, ◌≤◌}
use native.Mathlib.Omega.{arith}
use lib.ListN.{length}
use Rattle.rules.specs.Answer.{Proper, Within}
use Rattle.rules.specs.Card.{Card, clue_of, Straight, solve_straight}
use Rattle.rules.specs.Board.{NoneEmpty}
use Rattle.rules.specs.Run.{room, Outcome, run, full_run, point_run, board_of, report_of, Runs, Halts}
use Rattle.rules.specs.declared.LinePosition.{LinePosition}
use Rattle.rules.proofs.Cards.{straight_proper, straight_right}
use Rattle.rules.proofs.Leavings.{runs_within, runs_filled, runs_halt}
use Rattle.rules.proofs.Runs.{full_runs, point_runs, full_spent, point_spent}
use Rattle.grid.specs.declared.report.Report.{Report}
use Rattle.stack.specs.declared.Stack.{Stack}
use Rattle.stack.specs.Stack.{lines_on, Lines, Starts}
use Rattle.stack.proofs.Onces.{lines_point, lines_full}
use Rattle.card.proofs.Clued.{clue_legal}
use Rattle.run.specs.declared.Start.{Start}
use Rattle.run.specs.declared.Start.TheVariants.{Full, Point}
use Rattle.run.specs.declared.Progress.{Progress}
use Rattle.run.specs.declared.RunError.{RunError}
use Rattle.run.specs.Ends.{end_of, start_stack, start_count}
use Rattle.run.specs.Steps.{InGrid, Begins, Ended, Judged}
use Rattle.grid.proofs.Rows.{sized}

start_lines : (w h : ℕ) (s : Start) → InGrid w h s → Lines w h (start_stack w h s)
start_lines w h Full i = lines_full w h
start_lines w h (Point x y) i = lines_point x.0 y.0 i.0 i.1

module _ {w h : ℕ} {s : Start} {c : Card} {b report memo stack : List ℕ} (j : Judged w h s c b report memo stack) where
  pub begins : (r : Report) (column answer : List ℕ) (t : Stack) → r.count ≡ 0 → r.cells.now ≡ report → 64 ≤ length column → 64 ≤ length answer
      → Starts (start_stack w h s) stack t → Begins w h c b r memo column answer t
  begins r column answer t f u p q e =
      record {
        grid = j.grid;
        right = j.right;
        lines = rw e.lines (start_lines w h s j.inside);
        works = q;
        copy = omega (arith, j.grid.high_most);
        memos = j.memos;
        stacked = omega (arith, j.stacked, e.long);
        fresh = f;
        reports = rw u j.reports;
      }

  pub proper : (l : LinePosition) (p : List ℕ) → Straight w h (clue_of c) l p → Proper p
  proper = straight_proper w h (clue_of c) (clue_legal j.right)

  -- the end is the one that the order rules give
  pub end_runs : Runs w h (solve_straight w h (clue_of c)) (start_stack w h s) b [] 0 (end_of w h s c b)
  end_runs = go s j.inside
    where
      go : (s : Start) → InGrid w h s → Runs w h (solve_straight w h (clue_of c)) (start_stack w h s) b [] 0 (end_of w h s c b)
      go Full i =
          full_runs w h proper j.grid.wide j.grid.high (solve_straight w h (clue_of c))
          (straight_right w h (clue_of c) (clue_legal j.right)) b (sized j.grid)
      go (Point x y) i =
          point_runs w h proper j.grid.wide j.grid.high (solve_straight w h (clue_of c))
          (straight_right w h (clue_of c) (clue_legal j.right)) x.0 y.0 b i.0 i.1 (sized j.grid)

  -- it leaves a board within the start, with no cell emptied; where it is refused, no placement of the refusing line agrees with that board
  pub left_within : Within (board_of (end_of w h s c b)) b
  left_within =
      runs_within w h proper j.grid.wide j.grid.high (solve_straight w h (clue_of c)) (straight_right w h (clue_of c) (clue_legal j.right))
      end_runs (sized j.grid) (start_lines w h s j.inside).on

  pub left_filled : NoneEmpty b → NoneEmpty (board_of (end_of w h s c b))
  left_filled =
      runs_filled w h proper j.grid.wide j.grid.high (solve_straight w h (clue_of c)) (straight_right w h (clue_of c) (clue_legal j.right))
      end_runs (sized j.grid) (start_lines w h s j.inside).on

  pub end_halts : Halts (Straight w h (clue_of c)) w h (end_of w h s c b)
  end_halts =
      runs_halt w h proper j.grid.wide j.grid.high (solve_straight w h (clue_of c)) (straight_right w h (clue_of c) (clue_legal j.right))
      end_runs (sized j.grid) (start_lines w h s j.inside).on

  -- every entry costs a colour
  pub spent : length (report_of (end_of w h s c b)) + room (board_of (end_of w h s c b)) ≤ room b
  spent = go s j.inside
    where
      go : (s : Start) → InGrid w h s → length (report_of (end_of w h s c b)) + room (board_of (end_of w h s c b)) ≤ room b
      go Full i =
          full_spent w h proper j.grid.wide j.grid.high (solve_straight w h (clue_of c))
          (straight_right w h (clue_of c) (clue_legal j.right)) b (sized j.grid)
      go (Point x y) i =
          point_spent w h proper j.grid.wide j.grid.high (solve_straight w h (clue_of c))
          (straight_right w h (clue_of c) (clue_legal j.right)) x.0 y.0 b i.0 i.1 (sized j.grid)

  -- the report has room for what is told
  pub told_fits : length (report_of (end_of w h s c b)) ≤ length report
  told_fits = omega (arith, spent, j.reports)

end_is : (w h : ℕ) (s : Start) (c : Card) (b : List ℕ)
    → run w h (solve_straight w h (clue_of c)) (room b + start_count w h s) (start_stack w h s) b [] 0 ≡ end_of w h s c b
unfolding full_run point_run
end_is w h Full c b = refl
end_is w h (Point x y) c b = refl

pub ended : (w h : ℕ) (s : Start) (c : Card) (b : List ℕ) {report b' report' left : List ℕ} {r : Result Progress RunError} (t : Stack)
    → t.count ≡ start_count w h s → lines_on t ≡ start_stack w h s
    → Ended (run w h (solve_straight w h (clue_of c)) (room b + t.count) (lines_on t) b [] 0) r b' report report' → left ≡ report'
    → Ended (end_of w h s c b) r b' report left
ended w h s c b {report} {b'} {report'} {left} {r} t e f v u =
    rw u
    (subst (λ (o : Outcome). Ended o r b' report report')
    (ap₂ (λ (k : ℕ) (st : List LinePosition). run w h (solve_straight w h (clue_of c)) (room b + k) st b [] 0) e f ∙ end_is w h s c b) v)
