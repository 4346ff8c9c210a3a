-- `parts::part_of` meets its contract.
use Prim.Native.Nat.{◌+◌, ◌≤◌}
use lib.ListN.{length, get_or}
use native.Mathlib.Omega.{arith}
use Rattle.card.proofs.Counted.{sum_part}
use Rattle.card.proofs.parts.part_of.Goals as goal
use Rattle.card.proofs.parts.part_of.Goals.{After-sum_to-from}

within : (c : After-sum_to-from) → c.sum_to-from.result + get_or c.args.counts.now
    c.args.i 0 ≤ length c.args.list.now
within c =
    omega (arith, c.sum_to-from.ensures, sum_part c.args.counts.now c.args.i c.requires.0, c.requires.1.total)

pub overflow_add-result : goal.overflow_add-result
overflow_add-result c =
    omega (arith, within (goal.at.overflow_add-result c).After-sum_to-from, c.well_formed)

pub offset_bounds-list-from : goal.offset_bounds-list-from
offset_bounds-list-from c =
    omega (arith, within (goal.at.offset_bounds-list-from c).After-sum_to-from, c.well_formed)

pub slice_bounds-result-end : goal.slice_bounds-result-end
slice_bounds-result-end c = within (goal.at.slice_bounds-result-end c).After-sum_to-from
