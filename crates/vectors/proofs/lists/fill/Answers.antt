use Rattle.vectors.proofs.Filled.{filled_entry}
use Rattle.vectors.proofs.lists.fill.Goals as goal

pub loop-index-preserved : goal.loop-index-preserved
loop-index-preserved g c = filled_entry _ _ _ _ (rw c.loop-index.auto.list c.loop-index-test.true) c.filler.ensures c.loop-index.invariant
