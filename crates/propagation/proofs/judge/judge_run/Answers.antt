-- `judge::judge_run` meets its contract: one rule after the other.
use mathlib.Core.Path.{◌∙◌}
use Rattle.std.proofs.lemmas.Result.{err_from_is_err_and}
use Rattle.propagation.proofs.Told.{card_bad, cells_bad, ends_left}
use Rattle.propagation.proofs.judge.judge_run.Goals as goal

pub returns-in_err-judge : goal.returns-in_err-judge
returns-in_err-judge g c =
    let p = err_from_is_err_and c.from_residual.result c.from_residual.ensures.1 in
    let card = g.C.LentCard.lent c.args.card.now in
    rw (p.1, p.2)
    (card_bad g.C.LentCard.kind c.args.width c.args.height c.args.start card c.args.grid.now c.args.report c.args.memo c.args.stack
    c.in_err-judge.ensures)

pub returns-in_err-judge_cells : goal.returns-in_err-judge_cells
returns-in_err-judge_cells g c =
    let p = err_from_is_err_and c.from_residual-in_err-judge_cells.result c.from_residual-in_err-judge_cells.ensures.1 in
    let card = g.C.LentCard.lent c.args.card.now in
    rw (p.1, p.2)
    (cells_bad g.C.LentCard.kind c.args.width c.args.height c.args.start card c.args.grid.now c.args.report c.args.memo c.args.stack
    c.in_ok-judge.ensures c.in_err-judge_cells.ensures)

pub returns : goal.returns
returns g c =
    let card = g.C.LentCard.lent c.args.card.now in
    c.judge_end.ensures
    ∙ rw c.count_room.ensures
    (ends_left g.C.LentCard.kind c.args.width c.args.height c.args.start card c.args.grid.now c.args.report c.args.memo c.args.stack
    c.in_ok-judge.ensures c.in_ok-judge_cells.ensures)
