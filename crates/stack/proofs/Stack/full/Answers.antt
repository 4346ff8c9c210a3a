-- `Stack::full` meets its contract: the distances that are left give the whole.
use mathlib.Core.Path.{refl}
use native.Mathlib.Omega.{arith}
use Rattle.stack.proofs.Ordered.{room_columns, room_rows, order_more, order_starts, order_count}
use Rattle.stack.proofs.Stack.full.Goals as goal

pub push_around-requires : goal.push_around-requires
push_around-requires c =
    (c.requires.0, omega arith, room_columns c.loop-distance.invariant c.loop-distance-test.true c.requires.0 c.requires.1 refl c.requires.2)

pub push_around-requires-in-loop-distance : goal.push_around-requires-in-loop-distance
push_around-requires-in-loop-distance c =
    (c.requires.1, omega arith, room_rows c.loop-distance.invariant c.loop-distance-test.true c.requires.0 c.requires.1 refl c.requires.2 c.push_around.ensures)

pub loop-distance-preserved : goal.loop-distance-preserved
loop-distance-preserved c =
    order_more c.loop-distance.invariant c.loop-distance-test.true c.push_around.ensures c.push_around-in-loop-distance.ensures

pub returns-clause-starts : goal.returns-clause-starts
returns-clause-starts c = order_starts c.loop-distance.invariant c.loop-distance-test.false c.requires.0 c.requires.1 refl

pub returns-clause-count : goal.returns-clause-count
returns-clause-count c = order_count c.loop-distance.invariant c.loop-distance-test.false c.requires.0 c.requires.1 refl
