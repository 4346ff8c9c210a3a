-- The calls by the numbers that they have in files of cases.
use Rattle.std.specs.Prelude.{◌≡◌, ℕ, ◌<◌, ◌⊎◌, Result, MatchResult}
use Rattle.cases.specs.declared.calls.Cells.{Cells}
use Rattle.cases.specs.declared.calls.Cells.TheVariants.{Coloured, Binary}
use Rattle.cases.specs.declared.calls.Call.{Call}
use Rattle.cases.specs.declared.calls.Call.TheVariants.{Blocks, Clues, Line, Run, Picture}
use Rattle.cases.specs.declared.calls.UnknownCall.{UnknownCall}
use Rattle.cases.specs.declared.blocks.BlockCall.{BlockCall}
use Rattle.cases.specs.declared.blocks.BlockCall.TheVariants.{PartialSums, BlockStarts, PositionsNumber, ColorRanges, Description}
use Rattle.cases.specs.declared.clues.ClueCall.{ClueCall}
use Rattle.cases.specs.declared.clues.ClueCall.TheVariants.{Line as ClueOfLine, Picture as CluesOfPicture}
use Rattle.cases.specs.declared.runs.RunCall.{RunCall}
use Rattle.cases.specs.declared.runs.RunCall.TheVariants.{Full, Point}
use Rattle.cases.specs.declared.pictures.PictureCall.{PictureCall}
use Rattle.cases.specs.declared.pictures.PictureCall.TheVariants.{Read, Write}

-- the number of coloured cells, or that of binary ones
abbrev pub by_cells : Cells → ℕ → ℕ → ℕ
by_cells Coloured coloured binary = coloured
by_cells Binary coloured binary = binary

abbrev pub block_number : BlockCall → ℕ
block_number (PartialSums cells) = by_cells cells 1 8
block_number (BlockStarts cells) = by_cells cells 2 9
block_number (PositionsNumber cells) = by_cells cells 3 10
block_number ColorRanges = 4
block_number (Description cells) = by_cells cells 5 11

abbrev pub clue_number : ClueCall → ℕ
clue_number (ClueOfLine cells) = by_cells cells 6 12
clue_number (CluesOfPicture cells) = by_cells cells 7 13

abbrev pub run_number : RunCall → ℕ
run_number (Full cells) = by_cells cells 16 18
run_number (Point cells) = by_cells cells 17 19

abbrev pub picture_number : PictureCall → ℕ
picture_number Read = 20
picture_number Write = 21

-- the number of a call
abbrev pub number_of : Call → ℕ
number_of (Blocks call) = block_number call
number_of (Clues call) = clue_number call
number_of (Line call) = by_cells call.0 14 15
number_of (Run call) = run_number call
number_of (Picture call) = picture_number call

-- the result is the call with this number, or an error with a number that no call has
abbrev pub Names : ℕ → Result Call UnknownCall → Type 0
Names number result = MatchResult result (λ call. number_of call ≡ number) (λ unknown. (unknown.0 ≡ number) × ((number ≡ 0) ⊎ (21 < number)))

-- the cells that a call on blocks is for
abbrev pub cells_of_block_call : BlockCall → Cells
cells_of_block_call (PartialSums cells) = cells
cells_of_block_call (BlockStarts cells) = cells
cells_of_block_call (PositionsNumber cells) = cells
cells_of_block_call ColorRanges = Coloured
cells_of_block_call (Description cells) = cells

-- the cells that a run is for
abbrev pub cells_of_run : RunCall → Cells
cells_of_run (Full cells) = cells
cells_of_run (Point cells) = cells
