-- `directions::write_columns` meets its contract: the columns that are left give the whole.
use Prim.Native.Nat.{ℕ}
use lib.ListN.{take}
use mathlib.Core.List.{List}
use mathlib.Core.Path.{◌≡◌, subst}
use Rattle.clue.specs.Steps.{entries, clue_in}
use Rattle.grid.proofs.Rows.{column_copied}
use Rattle.loops.specs.Put.{Put}
use Rattle.picture.proofs.Gathered.{turn_next}
use Rattle.picture.proofs.Told.{line_low}
use Rattle.rules.specs.Board.{column, line_of}
use Rattle.std.proofs.Common.{rules}
use Rattle.picture.proofs.directions.write_columns.Goals as goal
use Rattle.picture.proofs.directions.write_columns.Goals.{After-copy_column}

-- the copied column
copied : (c : After-copy_column)
    → take c.args.picture.height c.copy_column.new.line
    ≡ line_of c.args.picture.width c.args.picture.height c.args.picture.codes.now (column c.loop-x.x)
copied c =
    column_copied c.args.picture.sized c.loop-x.x c.loop-x.line c.copy_column.new.line (search rules) c.copy_column.ensures

pub loop-x-preserved : goal.loop-x-preserved
loop-x-preserved c =
    let p = c.args.picture in
    turn_next c.loop-x.invariant c.loop-x-test.true
    (subst (λ (l : List ℕ). Put c.loop-x.out c.loop-x.at (entries c.args.part (clue_in p.reading l)) c.write_clue-at.result c.write_clue-at.new.out)
    (copied (goal.at.loop-x-preserved c).After-copy_column) c.write_clue-at.ensures)
    (line_low p.reading.ink c.args.part p.reading.blank p.width p.height p.codes.now (column c.loop-x.x))
