-- `directions::write_rows` meets its contract: the rows that are left give the whole.
use Prim.Native.Nat.{ℕ}
use mathlib.Core.List.{List}
use mathlib.Core.Path.{◌≡◌, ◌∙◌, subst}
use Rattle.clue.specs.Steps.{entries, clue_in}
use Rattle.grid.proofs.Rows.{row_line}
use Rattle.loops.specs.Put.{Put}
use Rattle.picture.proofs.Gathered.{turn_next}
use Rattle.picture.proofs.Told.{line_low}
use Rattle.rules.specs.Board.{row, line_of}
use Rattle.picture.proofs.directions.write_rows.Goals as goal
use Rattle.picture.proofs.directions.write_rows.Goals.{After-row-line}

-- the row that is lent
lent : (c : After-row-line)
    → c.row-line.result.now ≡ line_of c.args.picture.width c.args.picture.height c.args.picture.codes.now (row c.loop-y.y)
lent c = c.row-line.ensures ∙ row_line c.args.picture.sized c.loop-y.y c.loop-y-test.true

pub loop-y-preserved : goal.loop-y-preserved
loop-y-preserved c =
    let p = c.args.picture in
    turn_next c.loop-y.invariant c.loop-y-test.true
    (subst (λ (l : List ℕ). Put c.loop-y.out c.loop-y.at (entries c.args.part (clue_in p.reading l)) c.write_clue-at.result c.write_clue-at.new.out)
    (lent (goal.at.loop-y-preserved c).After-row-line) c.write_clue-at.ensures)
    (line_low p.reading.ink c.args.part p.reading.blank p.width p.height p.codes.now (row c.loop-y.y))
