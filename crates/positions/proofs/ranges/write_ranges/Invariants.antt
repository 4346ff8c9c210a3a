-- `ranges::write_ranges` meets its contract: in each list, what is left to write gives the whole.
use Prim.Native.Nat.{◌≤◌}
use lib.ListN.{take, drop}
use mathlib.Core.List.{[], map}
use Rattle.positions.specs.Steps.{start_in, end_in}
use Rattle.loops.proofs.Going.{Going}
use Rattle.rules.specs.Ranges.{new_of}
use Rattle.positions.proofs.ranges.write_ranges.Given as goal

abbrev pub invariant-loop-at : goal.invariant-loop-at
invariant-loop-at l =
    (l.count ≤ l.at) × Going l.initial.out_colours 0 (new_of [] l.colours) l.out_colours l.count (new_of (take l.at l.colours) (drop l.at l.colours))
    × Going l.initial.out_from 0 (map (start_in l.colours l.starts) (new_of [] l.colours)) l.out_from l.count
    (map (start_in l.colours l.starts) (new_of (take l.at l.colours) (drop l.at l.colours))) × Going l.initial.out_to 0
    (map (end_in l.colours l.sums l.slack) (new_of [] l.colours)) l.out_to l.count
    (map (end_in l.colours l.sums l.slack) (new_of (take l.at l.colours) (drop l.at l.colours)))
