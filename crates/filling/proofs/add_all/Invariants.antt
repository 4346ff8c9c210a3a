-- `add_all` meets its contract. The invariant: the colour is added to the cells passed.
use Rattle.filling.specs.Steps.{Added}
use Rattle.filling.proofs.add_all.Given as goal

abbrev pub invariant-loop-cell : goal.invariant-loop-cell
invariant-loop-cell l = Added l.initial.cell-items l.cell-items 0 l.cell-index (λ i. l.colour)
