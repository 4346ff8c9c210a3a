-- `rows::write_row` meets its contract: the cells, and then the line feed.
use Rattle.pbm.proofs.Pages.{adds_then}
use Rattle.pbm.proofs.rows.write_row.Goals as goal

pub returns : goal.returns
returns c = adds_then c.write_cells.ensures c.push.ensures
