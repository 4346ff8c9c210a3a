-- Where the call for the clues is done, they stand in its lists line by line.
use Rattle.scan.proofs.Listed.{rows_lined, columns_lined}
use Rattle.scan.proofs.pictures.write_picture.Goals as goal

pub invariant_of-rows : goal.invariant_of-rows
invariant_of-rows g c =
    let a = c.args in
    record { sized = rows_lined 1 a.width a.height a.codes.now _ _ _ _ (rw c.in_default.is at c.clues_from_solution-answer.ensures) }

pub invariant_of-columns : goal.invariant_of-columns
invariant_of-columns g c =
    let a = c.args in
    record { sized = columns_lined 1 a.width a.height a.codes.now _ _ _ _ (rw c.in_default.is at c.clues_from_solution-answer.ensures) }
