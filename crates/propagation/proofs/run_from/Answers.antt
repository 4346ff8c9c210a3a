-- `run_from` meets its contract: it judges, and then runs.
use mathlib.Core.Path.{sym}
use Rattle.std.proofs.lemmas.Result.{err_from_is_err_and}
use Rattle.propagation.proofs.Told.{judged_in, ran_ended, ran_refused, runs_in}
use Rattle.run.proofs.Started.{told_fits}
use Rattle.propagation.proofs.run_from.Goals as goal

pub run_judged-requires : goal.run_judged-requires
run_judged-requires g c =
    judged_in c.args.width c.args.height c.args.start (g.C.LentCard.lent c.args.card.now) c.args.grid.now c.args.report.now c.args.memo.now
    c.args.stack.now g.C.LentCard.kind (sym c.in_ok-judge_run.ensures)

pub returns : goal.returns
returns g c =
    let e = sym c.in_ok-judge_run.ensures in
    let card = g.C.LentCard.lent c.args.card.now in
    let judged = judged_in c.args.width c.args.height c.args.start card c.args.grid.now c.args.report.now c.args.memo.now c.args.stack.now
    g.C.LentCard.kind e in
    runs_in c.args.width c.args.height c.args.start card c.args.grid.now c.args.report.now c.args.memo.now c.args.stack.now g.C.LentCard.kind
    (ran_ended e c.run_judged.ensures.tells c.run_judged.ensures.board c.run_judged.ensures.reports (told_fits judged) c.run_judged.auto.memo
    c.run_judged.auto.stack)

pub returns-in_err-judge_run : goal.returns-in_err-judge_run
returns-in_err-judge_run g c =
    let p = err_from_is_err_and c.from_residual.result c.from_residual.ensures.1 in
    rw (p.1, p.2)
    (runs_in c.args.width c.args.height c.args.start (g.C.LentCard.lent c.args.card.now) c.args.grid.now c.args.report.now c.args.memo.now
    c.args.stack.now g.C.LentCard.kind (ran_refused (sym c.in_err-judge_run.ensures)))
