-- `judge::count_room` meets its contract: the set of each cell adds its colours less one.
use Rattle.std.proofs.Common.{rules, ◌≡◌, ◌-◌, ◌∙◌}
use Rattle.std.specs.Prelude.{sum_by}
use Rattle.std.specs.Int.Count.{ones}
use Rattle.std.proofs.iter.runs.Made.{chains}
use Rattle.propagation.specs.Steps.{set_in}
use Rattle.propagation.proofs.Cells.{room_sum}
use Rattle.propagation.proofs.judge.count_room.Goals as goal

pub returns : goal.returns
returns g c =
    let e : c.sum.result ≡ sum_by (λ n. ones (set_in g.C.LentCard.kind n) - 1) c.args.grid.now = search (rules, chains) in
    e ∙ room_sum g.C.LentCard.kind c.args.grid.now
