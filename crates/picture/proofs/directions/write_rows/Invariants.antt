-- `directions::write_rows` meets its contract: the rows that are left give the whole.
use Rattle.clue.specs.Steps.{entries, per, clue_in}
use Rattle.picture.proofs.Gathered.{Turn}
use Rattle.rules.specs.Board.{row, line_of}
use Rattle.picture.proofs.directions.write_rows.Given as goal

abbrev pub invariant-loop-y : goal.invariant-loop-y
invariant-loop-y l =
    let p = l.picture in
    Turn (entries l.part) (λ k. clue_in p.reading (line_of p.width p.height p.codes.now (row k))) p.height (per l.part p.width) l.initial.out l.out l.at l.y
