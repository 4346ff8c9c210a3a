-- `Stack::drop_changed` meets its contract: the lines that stay have moved down so far.
use mathlib.Core.Path.{sym, ◌∙◌}
use native.Mathlib.Numerals.{add-one}
use native.Mathlib.Omega.{arith}
use Rattle.stack.proofs.Pushed.{pack_drop, pack_keep}
use Rattle.stack.proofs.Stack.drop_changed.Goals as goal
use Rattle.stack.proofs.Stack.drop_changed.Goals.{then-not-crosses_change, else-not-crosses_change}

pub loop-i-preserved : goal.loop-i-preserved
loop-i-preserved c =
    elim c.if-not-crosses_change.branch [
      | then-not-crosses_change w ↦
          rw (w.self-is, w.kept-is, add-one c.loop-i.i, add-one c.loop-i.kept) (
            pack_keep c.loop-i.invariant.0 (omega (arith, c.requires.1, c.loop-i-test.true))
                (sym c.crosses_change.ensures ∙ w.if-not-crosses_change.true),
            c.loop-i.invariant.1,
          )
      | else-not-crosses_change w ↦
          rw (w.self-is, w.kept-is, add-one c.loop-i.i)
          (pack_drop c.loop-i.invariant.0 (sym c.crosses_change.ensures ∙ w.if-not-crosses_change.false), c.loop-i.invariant.1)
    ]
