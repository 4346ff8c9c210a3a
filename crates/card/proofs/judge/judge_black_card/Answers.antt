-- `judge::judge_black_card` meets its contract: one rule after the other.
use mathlib.Core.Path.{sym, ◌∙◌}
use Rattle.card.proofs.Counted.{black_fine}
use Rattle.card.proofs.judge.judge_black_card.Goals as goal
use Rattle.card.proofs.judge.judge_black_card.Goals.{then-any_empty-via-then-any_empty, then-any_empty-via-else-any_empty+then-any_empty-2}

pub returns-then-any_empty : goal.returns-then-any_empty
returns-then-any_empty c =
    let e = black_fine c.args.width c.args.height c.args.cells c.args.card.row_counts.now c.args.card.row_sizes.now c.args.card.column_counts.now c.args.card.column_sizes.now
    c.args.memo c.args.stack (sym c.in_ok-judge_counts.ensures) in
    elim c.then-any_empty.branch [
      | then-any_empty-via-then-any_empty w ↦ sym (e ∙ rw (sym c.any_empty.ensures ∙ w.if-any_empty.true))
      | then-any_empty-via-else-any_empty+then-any_empty-2 w ↦
          sym (e ∙ rw (sym c.any_empty.ensures ∙ w.if-any_empty.false, sym w.any_empty-else-any_empty.ensures ∙ w.if-any_empty-2.true))
    ]

pub returns : goal.returns
returns c =
    sym
    (black_fine c.args.width c.args.height c.args.cells c.args.card.row_counts.now c.args.card.row_sizes.now c.args.card.column_counts.now c.args.card.column_sizes.now
    c.args.memo c.args.stack (sym c.in_ok-judge_counts.ensures)
    ∙ rw (sym c.any_empty.ensures ∙ c.if-any_empty.false, sym c.any_empty-else-any_empty.ensures ∙ c.if-any_empty-2.false))
