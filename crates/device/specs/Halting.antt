-- What the theorem about a run's struct with the number 8 speaks of.
use Rattle.std.specs.Prelude.{◌≡◌, List, [], ℕ, take}
use Rattle.std.proofs.Math.Option.{some}
use Rattle.rules.specs.Answer.{Refused}
use Rattle.rules.specs.Board.{On, line_of}
use Rattle.rules.specs.Card.{Card, clue_of, solve_straight}
use Rattle.rules.specs.Run.{refused, Runs}
use Rattle.rules.specs.declared.LinePosition.{LinePosition}
use Rattle.run.specs.Ends.{start_stack}
use Rattle.run.specs.declared.Start.{Start}
use Rattle.propagation.specs.Answered.{Placed}
use Rattle.replies.specs.Replies.{line_kind_of, line_index_of}
use Rattle.replies.specs.declared.runs.RunReply.{RunReply}

-- a struct, and the board of sets and the report that the run left: the line that the struct names is one of the board, of which no placement
-- agrees with that board; and by the order rules the run from the board b₀ comes to this line with this board, the first entries of this
-- report, and as many lines solved
pub record HaltedAt (w h : ℕ) (s : Start) (c : Card) (b₀ : List ℕ) (r : RunReply) (b report : List ℕ) : Type 0 where
  pub line : LinePosition
  pub kind : r.line_kind ≡ line_kind_of (some line)
  pub index : r.line_index ≡ line_index_of (some line)
  pub on : On w h line
  pub never : Refused (Placed w h c line) (line_of w h b line)
  pub before : Runs w h (solve_straight w h (clue_of c)) (start_stack w h s) b₀ [] 0 (refused line b (take r.entries report) r.lines)
