-- `judge::judge_blocks` meets its contract: the lists are judged, and then each block.
use mathlib.Core.Path.{sym, ◌∙◌}
use Rattle.std.proofs.lemmas.Result.{err_from_is_err_and}
use Rattle.rules.proofs.Verdicts.{blocks_split}
use Rattle.rules.proofs.judge.judge_blocks.Goals as goal

pub returns-in_err-judge_count : goal.returns-in_err-judge_count
returns-in_err-judge_count c =
    let p = err_from_is_err_and c.from_residual.result c.from_residual.ensures.1 in
    rw (p.1, p.2) (sym (blocks_split c.args.sizes.now c.args.colours.now (λ n. c.args.roomy) ∙ rw (sym c.in_err-judge_count.ensures)))

pub returns-then-any_illegal : goal.returns-then-any_illegal
returns-then-any_illegal c =
    sym
    (blocks_split c.args.sizes.now c.args.colours.now (λ n. c.args.roomy)
    ∙ rw (sym c.in_ok-judge_count.ensures, sym c.any_illegal.ensures ∙ c.if-any_illegal.true))

pub returns : goal.returns
returns c =
    sym
    (blocks_split c.args.sizes.now c.args.colours.now (λ n. c.args.roomy)
    ∙ rw (sym c.in_ok-judge_count.ensures, sym c.any_illegal.ensures ∙ c.if-any_illegal.false))
