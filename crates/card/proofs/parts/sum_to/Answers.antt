-- `parts::sum_to` meets its contract: at most 64 counts are summed.
use Rattle.std.proofs.Common.{rules, ◌≡◌, ◌≤◌, ◌^◌, length, take, length-take-le, ◌∙◌}
use Rattle.std.specs.Prelude.{sum_by}
use Rattle.std.proofs.iter.runs.Made.{chains}
use Rattle.std.proofs.lemmas.Iterator.{YieldsList-from_slice}
use Rattle.std.proofs.lemmas.Iterator.Adapters.{fits_from_length, at_most_from_yields_List}
use native.Mathlib.Omega.{arith}
use Rattle.card.proofs.Counted.{sum_is}
use Rattle.card.proofs.parts.sum_to.Goals as goal

pub sum-requires-clause-fits : goal.sum-requires-clause-fits
sum-requires-clause-fits c =
    let few : length (take c.args.i c.args.counts.now) ≤ 64 = omega (arith, length-take-le c.args.i c.args.counts.now c.requires.0, c.requires.1) in
    fits_from_length _ _ 64 (2 ^ 64) (at_most_from_yields_List (YieldsList-from_slice (take c.args.i c.args.counts.now) cc) few) c.map.ensures.closure (omega arith) (λ x r q k. search rules)

pub returns : goal.returns
returns c =
    let e : c.sum.result ≡ sum_by (λ x. x) (take c.args.i c.args.counts.now) = search (rules, chains) in e ∙ sum_is (take c.args.i c.args.counts.now)
