-- `binary::BlackCard::run_judged` meets its contract.
use mathlib.Core.Path.{refl}
use Rattle.propagation.proofs.Told.{rows_few, columns_few, black_judged, black_ended}
use Rattle.propagation.proofs.binary.BlackCardLentCard.run_judged.Goals as goal

pub shared_ref_as_front-card : goal.shared_ref_as_front-card
shared_ref_as_front-card c = rows_few c.requires

pub shared_ref_as_front-card-2 : goal.shared_ref_as_front-card-2
shared_ref_as_front-card-2 c = columns_few c.requires

pub run_judged-answer-requires : goal.run_judged-answer-requires
run_judged-answer-requires c = black_judged c.requires refl c.to_sets.ensures

pub returns : goal.returns
returns c = black_ended c.requires refl c.to_sets.ensures c.run_judged-answer.ensures c.to_cells.ensures
