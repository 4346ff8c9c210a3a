-- `lines::copy_column` meets its contract: what is left to copy gives the whole.
use lib.ListN.{drop}
use Rattle.loops.proofs.Going.{Going}
use Rattle.rules.specs.Board.{column, line_of}
use Rattle.grid.proofs.lines.copy_column.Given as goal

abbrev pub invariant-loop-y : goal.invariant-loop-y
invariant-loop-y l =
    let cells = line_of l.width l.height l.grid (column l.fn.x.0) in Going l.initial.cell-items 0 cells l.cell-items l.y (drop l.y cells)
