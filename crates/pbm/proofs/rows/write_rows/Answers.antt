-- `rows::write_rows` meets its contract: the rows that are left give the whole.
use Rattle.pbm.proofs.Pages.{RowsLeft, row_fits, row_added, rows_done}
use mathlib.Core.List.{◌++◌}
use mathlib.Core.Path.{◌∙◌}
use Rattle.pbm.proofs.rows.write_rows.Goals as goal
use Rattle.pbm.proofs.rows.write_rows.Goals.{In-Some}

-- the row comes first of the codes that are left
left : (c : In-Some)
    → RowsLeft c.args.sides c.args.codes.now c.args.page.now (c.in-Some.row.now ++ c.next.new.self.rest.now) c.loop-row.page
left c = rw c.in-Some.ensures.steps.1.0 at c.loop-row.invariant.1

pub write_row-requires : goal.write_row-requires
write_row-requires c =
    row_fits c.requires.wide _ _ (c.in-Some.ensures.steps.1.1 ∙ c.loop-row.invariant.0) (left (goal.at.write_row-requires c).In-Some)

pub loop-row-preserved : goal.loop-row-preserved
loop-row-preserved c = (
  c.in-Some.ensures.steps.0 ∙ c.loop-row.invariant.0,
  row_added c.requires.wide _ _ (c.in-Some.ensures.steps.1.1 ∙ c.loop-row.invariant.0) (left (goal.at.loop-row-preserved c).In-Some) c.write_row.ensures,
)

pub returns : goal.returns
returns c = rows_done c.requires.wide _ (rw c.loop-row.invariant.0 at c.in-None.ensures.steps.1.0) c.loop-row.invariant.1
