-- `ranges::write_ranges` meets its contract: in each list, what is left to write gives the whole.
use Prim.Native.Nat.{◌+◌, ◌<◌}
use lib.Dec.{eqb}
use lib.ListN.{length, take, drop, get_or}
use mathlib.Core.Bool.{false}
use mathlib.Core.List.{◌∷◌, map}
use mathlib.Core.Path.{◌≡◌, sym, ap, ◌∙◌}
use Rattle.positions.proofs.Ranged.{new_seen, new_fresh, new_end, first_here, last_low}
use Rattle.positions.specs.Steps.{start_in, end_in}
use Rattle.loops.proofs.Going.{going_put, going_on, going_done}
use Rattle.std.specs.List.{list_any}
use Rattle.rules.specs.Ranges.{new_of}
use native.Mathlib.Omega.{arith}
use Rattle.positions.proofs.ranges.write_ranges.Goals as goal
use Rattle.positions.proofs.ranges.write_ranges.Goals.{After-last_index}

-- the last block with the colour is one of the blocks
low : (c : After-last_index) → c.last_index.result < length c.args.sums.now
low c =
    omega (arith, last_low (get_or c.args.colours.now c.loop-at.at 0) 0 0 c.args.colours.now (omega arith), c.requires.all_sums)

pub offset_bounds-sums-last_index : goal.offset_bounds-sums-last_index
offset_bounds-sums-last_index c = omega (arith, low c)

pub bounds-sums-last_index : goal.bounds-sums-last_index
bounds-sums-last_index c = low (goal.at.bounds-sums-last_index c).After-last_index

pub loop-at-preserved-then-contains : goal.loop-at-preserved-then-contains
loop-at-preserved-then-contains c =
    let e = new_seen c.args.colours.now c.loop-at.at c.loop-at-test.true (sym c.contains.ensures.value ∙ c.if-contains.true) in (
      omega arith,
      going_on c.loop-at.invariant.1 e,
      going_on c.loop-at.invariant.2 (ap (map (start_in c.args.colours.now c.args.starts.now)) e),
      going_on c.loop-at.invariant.3 (ap (map (end_in c.args.colours.now c.args.sums.now c.args.slack)) e),
    )

pub loop-at-preserved : goal.loop-at-preserved
loop-at-preserved c =
    let q : list_any (λ d. eqb d (get_or c.args.colours.now c.loop-at.at 0)) (take c.loop-at.at c.args.colours.now) ≡ false =
    sym c.contains.ensures.value ∙ c.if-contains.false in
    let e = new_fresh c.args.colours.now c.loop-at.at c.loop-at-test.true q in (
      omega arith,
      going_put c.loop-at.invariant.1 e,
      going_put c.loop-at.invariant.2
          (ap (map (start_in c.args.colours.now c.args.starts.now)) e
          ∙ ap (λ k. get_or c.args.starts.now k 0 ∷ map (start_in c.args.colours.now c.args.starts.now)
          (new_of (take (c.loop-at.at + 1) c.args.colours.now) (drop (c.loop-at.at + 1) c.args.colours.now))) (first_here c.args.colours.now c.loop-at.at c.loop-at-test.true q)),
      going_put c.loop-at.invariant.3
          (ap (map (end_in c.args.colours.now c.args.sums.now c.args.slack)) e
          ∙ ap (λ k. (get_or c.args.sums.now k 0 + c.args.slack) ∷ map (end_in c.args.colours.now c.args.sums.now c.args.slack)
          (new_of (take (c.loop-at.at + 1) c.args.colours.now) (drop (c.loop-at.at + 1) c.args.colours.now))) (sym c.last_index.ensures)),
    )

pub returns : goal.returns
returns c = let e = new_end c.args.colours.now c.loop-at.at c.loop-at-test.false in
    record {
      colour_list = going_done c.loop-at.invariant.1 e;
      from_list = (going_done c.loop-at.invariant.2 (ap (map (start_in c.args.colours.now c.args.starts.now)) e)).holds;
      to_list = (going_done c.loop-at.invariant.3 (ap (map (end_in c.args.colours.now c.args.sums.now c.args.slack)) e)).holds;
    }
