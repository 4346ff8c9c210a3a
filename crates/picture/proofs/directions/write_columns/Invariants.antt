-- `directions::write_columns` meets its contract: the columns that are left give the whole.
use Rattle.clue.specs.Steps.{entries, per, clue_in}
use Rattle.picture.proofs.Gathered.{Turn}
use Rattle.rules.specs.Board.{column, line_of}
use Rattle.picture.proofs.directions.write_columns.Given as goal

abbrev pub invariant-loop-x : goal.invariant-loop-x
invariant-loop-x l =
    let p = l.picture in
    Turn (entries l.part) (λ k. clue_in p.reading (line_of p.width p.height p.codes.now (column k))) p.width (per l.part p.height) l.initial.out l.out l.at l.x
