-- What answers tell over C: the form of every statement about a struct, and the one struct for each answer.
use Rattle.std.specs.Prelude.{◌≡◌, ℕ, Err, Ok, Result}
use Rattle.std.proofs.Math.Option.{Option, none, some}
use Rattle.rules.specs.Refusal.{refusal_number_of}
use Rattle.rules.specs.declared.LinePosition.{LinePosition}
use Rattle.rules.specs.declared.LinePosition.TheVariants.{Row, Column}
use Rattle.rules.specs.declared.Refusal.{Refusal}
use Rattle.picture.specs.declared.Totals.{Totals}
use Rattle.pbm.specs.declared.Sides.{Sides}
use Rattle.run.specs.Ends.{Reply}
use Rattle.replies.specs.declared.count.CountReply.{CountReply}
use Rattle.replies.specs.declared.number.PositionsReply.{PositionsReply}
use Rattle.replies.specs.declared.clues.CluesReply.{CluesReply}
use Rattle.replies.specs.declared.pictures.PbmReply.{PbmReply}
use Rattle.replies.specs.declared.runs.RunReply.{RunReply}

-- r is what an answer tells of which the call's own statement holds
pub record Told {A B : Type 0} (tell : A → B) (Says : A → Type 0) (r : B) : Type 0 where
  pub answer : A
  pub says : Says answer
  pub tells : r ≡ tell answer

-- ---- the documents' number, and the values that come with 0; with a refusal these are 0

-- how many entries are written
abbrev pub tell_count_of : Result ℕ Refusal → CountReply
tell_count_of (Ok n) = record { number = 0; count = n }
tell_count_of (Err w) = record { number = refusal_number_of w; count = 0 }

-- how many blocks are written for the rows, and for the columns
abbrev pub tell_clues_of : Result Totals Refusal → CluesReply
tell_clues_of (Ok t) = record { number = 0; rows = t.rows; columns = t.columns }
tell_clues_of (Err w) = record { number = refusal_number_of w; rows = 0; columns = 0 }

-- in how many places the blocks lie
abbrev pub tell_positions_of : Result ℕ Refusal → PositionsReply
tell_positions_of (Ok n) = record { number = 0; positions = n }
tell_positions_of (Err w) = record { number = refusal_number_of w; positions = 0 }

-- the sides of the picture that was read
abbrev pub tell_pbm_of : Result Sides Refusal → PbmReply
tell_pbm_of (Ok s) = record { number = 0; width = s.width; height = s.height }
tell_pbm_of (Err w) = record { number = refusal_number_of w; width = 0; height = 0 }

-- ---- a run

-- the kind and the index of a line; where there is none they are 2 and 0
abbrev pub line_kind_of : Option LinePosition → ℕ
line_kind_of (some (Row y)) = 0
line_kind_of (some (Column x)) = 1
line_kind_of none = 2

abbrev pub line_index_of : Option LinePosition → ℕ
line_index_of (some (Row y)) = y.0
line_index_of (some (Column x)) = x.0
line_index_of none = 0

-- the one struct for a reply
abbrev pub tell_run : Reply → RunReply
tell_run t = record { number = t.number; line_kind = line_kind_of t.line; line_index = line_index_of t.line; entries = t.entries; lines = t.lines }
