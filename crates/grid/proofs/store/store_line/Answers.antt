-- `store::store_line` meets its contract: what is left to store and to report gives the whole.
use Rattle.grid.proofs.Storing.{store_start, store_same, room_for, store_change, store_end}
use Rattle.grid.proofs.store.store_line.Goals as goal
use Rattle.grid.proofs.store.store_line.Goals.{then-grid-cell, else-grid-cell}

pub loop-j-init : goal.loop-j-init
loop-j-init c = store_start _ _ _ _ _ _

pub push-requires : goal.push-requires
push-requires c =
    room_for _ _ _ _ _ _ c.requires c.loop-j.invariant c.loop-j-test.true (rw c.cell_of-cell.ensures at c.if-grid-cell.true)

pub loop-j-preserved : goal.loop-j-preserved
loop-j-preserved c =
    elim c.if-grid-cell.branch [
      | then-grid-cell w ↦
          rw (w.grid-is, w.report-is, c.cell_of-cell.ensures)
          (store_change _ _ _ _ _ _ c.requires c.loop-j.invariant c.loop-j-test.true (rw c.cell_of-cell.ensures at w.if-grid-cell.true)
          (rw c.cell_of-cell.ensures at w.push.ensures))
      | else-grid-cell w ↦
          rw (w.grid-is, w.report-is)
          (store_same _ _ _ _ _ _ c.requires c.loop-j.invariant c.loop-j-test.true (rw c.cell_of-cell.ensures at w.if-grid-cell.false))
    ]

pub returns : goal.returns
returns c =
    store_end _ _ _ _ _ _ c.requires c.loop-j.invariant c.loop-j-test.false
