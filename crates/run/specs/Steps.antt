-- What the private functions ask and tell. A reader of the public calls needs none of it.
use Rattle.std.specs.Prelude.{◌≡◌, List, ℕ, ◌≤◌, ◌<◌, length, Result}
use Rattle.std.proofs.lemmas.List.Edits.{sets}
use Rattle.rules.specs.Card.{Card}
use Rattle.rules.specs.Run.{room, Outcome, board_of, report_of}
use Rattle.rules.specs.Refusal.{memo_size, stack_size}
use Rattle.grid.specs.Grid.{Grid}
use Rattle.grid.specs.declared.report.Report.{Report}
use Rattle.stack.specs.declared.Stack.{Stack}
use Rattle.stack.specs.Stack.{lines_on, Lines}
use Rattle.card.specs.Steps.{RightCard}
use Rattle.run.specs.Ends.{reply_by, reply_to}
use Rattle.run.specs.declared.Start.{Start}
use Rattle.run.specs.declared.Start.TheVariants.{Full, Point}
use Rattle.run.specs.declared.Progress.{Progress}
use Rattle.run.specs.declared.RunError.{RunError}

-- ---- the loop

-- what the loop is given: a judged card and board, a report with no entry and room for all, and a stack of lines of the board
pub record Begins (w h : ℕ) (c : Card) (b : List ℕ) (r : Report) (memo column answer : List ℕ) (s : Stack) : Type 0 where
  pub grid : Grid w h b
  pub right : RightCard w h c
  pub lines : Lines w h (lines_on s)
  pub works : 64 ≤ length answer
  pub copy : h ≤ length column
  pub memos : memo_size ≤ length memo
  pub stacked : stack_size ≤ length s.codes.now
  pub fresh : r.count ≡ 0
  pub reports : room b ≤ length r.cells.now

-- the answer, the grid and the report at a run's end
pub record Ended (o : Outcome) (r : Result Progress RunError) (b' report report' : List ℕ) : Type 0 where
  pub tells : reply_by r ≡ reply_to o
  pub board : b' ≡ board_of o
  pub reports : report' ≡ sets report 0 (report_of o)

-- ---- where a run begins

-- the point, if there is one, lies in the grid
abbrev pub InGrid : ℕ → ℕ → Start → Type 0
InGrid w h Full = Unit {0}
InGrid w h (Point x y) = (x.0 < w) × (y.0 < h)

-- what the rules leave
pub record Judged (w h : ℕ) (s : Start) (c : Card) (b report memo stack : List ℕ) : Type 0 where
  pub grid : Grid w h b
  pub right : RightCard w h c
  pub inside : InGrid w h s
  pub memos : memo_size ≤ length memo
  pub stacked : stack_size ≤ length stack
  pub reports : room b ≤ length report
