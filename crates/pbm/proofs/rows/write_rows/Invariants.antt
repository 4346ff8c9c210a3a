-- `rows::write_rows` meets its contract: the rows that are left give the whole.
use Rattle.pbm.proofs.Pages.{RowsLeft}
use mathlib.Core.Path.{◌≡◌}
use Rattle.pbm.proofs.rows.write_rows.Given as goal

abbrev pub invariant-loop-row : goal.invariant-loop-row
invariant-loop-row l =
    (l.row-iterator.size ≡ l.fn.sides.width) × RowsLeft l.fn.sides l.codes l.initial.page l.row-iterator.rest.now l.page
