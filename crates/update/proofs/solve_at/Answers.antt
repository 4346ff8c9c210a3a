-- `solve_at` meets its contract: a row and a copied column are the line's cells.
use mathlib.Core.Path.{◌≡◌, ◌∙◌}
use Rattle.rules.specs.Board.{line_of}
use Rattle.grid.proofs.Rows.{row_line, column_copied}
use Rattle.update.proofs.Updating.{solvable, roomy_cells}
use Rattle.update.proofs.solve_at.Goals as goal
use Rattle.update.proofs.solve_at.Goals.{After-copy_column, After-row}
use lib.ListN.{take}

row_is : (c : After-row) → c.row.result.now ≡ line_of c.args.width c.args.height c.args.grid.now c.args.line
row_is c = rw c.in-Row.is (c.row.ensures ∙ row_line c.requires.grid c.in-Row.y.0 (rw c.in-Row.is at c.requires.on))

column_is : (c : After-copy_column) → take c.args.height c.copy_column.new.line ≡ line_of c.args.width c.args.height c.args.grid.now c.args.line
column_is c =
    rw c.in-Column.is
    (column_copied c.requires.grid c.in-Column.x.0 c.args.column.now c.copy_column.new.line c.requires.copy c.copy_column.ensures)

pub solve_cells-requires : goal.solve_cells-requires
solve_cells-requires c =
    let e = row_is (goal.at.solve_cells-requires c).After-row in (solvable c.requires _ e, rw c.in-Row.is at (roomy_cells c.requires _ e))

pub solve_cells-requires-in-Column : goal.solve_cells-requires-in-Column
solve_cells-requires-in-Column c =
    let e = column_is (goal.at.solve_cells-requires-in-Column c).After-copy_column in
    (solvable c.requires _ e, rw c.in-Column.is at (roomy_cells c.requires _ e))

pub returns-in-Row-clause-attempted : goal.returns-in-Row-clause-attempted
returns-in-Row-clause-attempted c =
    rw (← row_is (goal.at.returns-in-Row-clause-attempted c).After-row, c.in-Row.is) c.solve_cells.ensures.attempted

pub returns-in-Column-clause-attempted : goal.returns-in-Column-clause-attempted
returns-in-Column-clause-attempted c =
    rw (← column_is (goal.at.returns-in-Column-clause-attempted c).After-copy_column, c.in-Column.is) c.solve_cells-in-Column.ensures.attempted
