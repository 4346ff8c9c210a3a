-- `Stack::push_around` meets its contract.
use mathlib.Core.Path.{refl}
use native.Mathlib.Omega.{arith}
use Rattle.stack.proofs.Piling.{piled_then}
use Rattle.stack.proofs.Ordered.{around_none, around_one, around_two, around_low, around_high}
use Rattle.stack.proofs.Stack.push_around.Goals as goal

pub returns-then-middle-distance : goal.returns-then-middle-distance
returns-then-middle-distance c =
    rw (around_none c.args.base c.args.sides c.args.distance c.if-middle-distance.true)
    (record { kept = record { same = refl; long = refl }; lines = refl })

pub push_at-requires : goal.push_at-requires
push_at-requires c =
    (c.requires.0, c.requires.1, omega (arith, c.requires.2, around_low c.args.base c.args.sides c.args.distance c.if-middle-distance.false))

pub push_at-requires-then-distance-gt0 : goal.push_at-requires-then-distance-gt0
push_at-requires-then-distance-gt0 c =
    (c.requires.0, c.requires.1, around_high c.args.base c.args.sides c.args.distance c.if-middle-distance.false (λ e. omega (arith, e, c.if-distance-gt0.true)) c.push_at.ensures c.requires.2)

pub returns-then-distance-gt0 : goal.returns-then-distance-gt0
returns-then-distance-gt0 c =
    rw (around_two c.args.base c.args.sides c.args.distance c.if-middle-distance.false (λ e. omega (arith, e, c.if-distance-gt0.true)))
    (piled_then c.push_at.ensures c.push_at-then-distance-gt0.ensures)

pub returns-else-distance-gt0 : goal.returns-else-distance-gt0
returns-else-distance-gt0 c =
    rw (around_one c.args.base c.args.sides c.args.distance c.if-middle-distance.false (omega (arith, c.if-distance-gt0.false))) c.push_at.ensures
