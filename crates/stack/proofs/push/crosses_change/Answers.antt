-- `push::crosses_change` meets its contract.
use mathlib.Core.Path.{sym, ◌∙◌}
use native.Mathlib.Omega.{arith}
use Rattle.stack.proofs.Pushed.{crosses_not, crosses_at}
use Rattle.stack.proofs.push.crosses_change.Goals as goal

pub returns-then-code-first : goal.returns-then-code-first
returns-then-code-first c =
    sym
    (crosses_not c.args.line c.code_of-first.result (c.code_of-first.ensures ∙ c.crossing.ensures) c.requires c.args.code (λ j h z. omega (arith, c.if-code-first.true)))

pub returns-then-answer-j : goal.returns-then-answer-j
returns-then-answer-j c =
    sym
    (crosses_not c.args.line c.code_of-first.result (c.code_of-first.ensures ∙ c.crossing.ensures) c.requires c.args.code (λ j h z. omega (arith, c.if-answer-j.true)))

pub returns : goal.returns
returns c =
    sym
    (crosses_at c.args.line c.code_of-first.result (c.code_of-first.ensures ∙ c.crossing.ensures) c.requires c.args.code c.if-code-first.false
    (omega (arith, c.if-answer-j.false)))
