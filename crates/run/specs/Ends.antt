-- Where a run begins, what its answer tells, and what the end of a run asks to be told.
use Rattle.std.specs.Prelude.{List, ℕ, ◌+◌, length, Result, Ok, Err}
use Rattle.std.proofs.Math.Option.{Option, none, some}
use Rattle.rules.specs.Card.{Card, clue_of, solve_straight}
use Rattle.rules.specs.Refusal.{refusal_number_of}
use Rattle.rules.specs.Run.{Outcome, done, refused, full_stack, point_stack, full_run, point_run}
use Rattle.rules.specs.declared.LinePosition.{LinePosition}
use Rattle.rules.specs.declared.Refusal.{Refusal}
use Rattle.run.specs.declared.Start.{Start}
use Rattle.run.specs.declared.Start.TheVariants.{Full, Point}
use Rattle.run.specs.declared.Progress.{Progress}
use Rattle.run.specs.declared.RunError.{RunError}
use Rattle.run.specs.declared.RunError.TheVariants.{Unsolvable, Refused}

-- document 01's number of each answer
abbrev pub run_answer_number : Result Progress RunError → ℕ
run_answer_number (Ok p) = 0
run_answer_number (Err (Unsolvable line p)) = 8
run_answer_number (Err (Refused w)) = refusal_number_of w

-- what an answer tells: its number, the line that refused, the entries written to the report and the lines solved
pub record Reply : Type 0 where
  pub number : ℕ
  pub line : Option LinePosition
  pub entries : ℕ
  pub lines : ℕ

-- a refusal by checking has no line and no counts
abbrev pub refusal : Refusal → Reply
refusal w = record { number = refusal_number_of w; line = none; entries = 0; lines = 0 }

abbrev pub reply_by : Result Progress RunError → Reply
reply_by (Ok p) = record { number = 0; line = none; entries = p.entries; lines = p.lines }
reply_by (Err (Unsolvable line p)) = record { number = 8; line = some line; entries = p.entries; lines = p.lines }
reply_by (Err (Refused w)) = refusal w

-- what the end of a run asks to be told
abbrev pub reply_to : Outcome → Reply
reply_to (done b r k) = record { number = 0; line = none; entries = length r; lines = k }
reply_to (refused l b r k) = record { number = 8; line = some l; entries = length r; lines = k }

-- the end that a reply tells, of a run that left this board and reported these cells
abbrev pub end_at : Option LinePosition → List ℕ → List ℕ → ℕ → Outcome
end_at none b r k = done b r k
end_at (some l) b r k = refused l b r k

abbrev pub end_told : Reply → List ℕ → List ℕ → Outcome
end_told t b r = end_at t.line b r t.lines

-- the lines that a run begins with, the first on top, and how many they are
abbrev pub start_stack : ℕ → ℕ → Start → List LinePosition
start_stack w h Full = full_stack w h
start_stack w h (Point x y) = point_stack x.0 y.0

abbrev pub start_count : ℕ → ℕ → Start → ℕ
start_count w h Full = w + h
start_count w h (Point x y) = 2

-- the run of a card by the order rules
abbrev pub end_of : ℕ → ℕ → Start → Card → List ℕ → Outcome
end_of w h Full c b = full_run w h (solve_straight w h (clue_of c)) b
end_of w h (Point x y) c b = point_run w h (solve_straight w h (clue_of c)) x.0 y.0 b
