-- `lines::copy_column` meets its contract: what is left to copy gives the whole.
use lib.Seq.{length-take-le}
use Rattle.grid.proofs.Rows.{column_step, column_put}
use Rattle.loops.proofs.Going.{going_put}
use native.Mathlib.Omega.{arith}
use Rattle.grid.proofs.lines.copy_column.Goals as goal

pub loop-y-preserved : goal.loop-y-preserved
loop-y-preserved c =
    let n = length-take-le c.args.height c.args.line.now c.requires.2 in
    going_put c.loop-y.invariant (column_step c.requires.0 c.args.x.0 c.loop-y.y (omega (arith, n)))

pub returns : goal.returns
returns c =
    let n = length-take-le c.args.height c.args.line.now c.requires.2 in
    column_put c.requires.0 c.args.x.0 c.args.line.now c.loop-y.cell-items c.requires.2 (omega (arith, n)) c.loop-y.invariant
