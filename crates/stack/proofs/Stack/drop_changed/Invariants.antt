-- `Stack::drop_changed` meets its contract: the lines that stay have moved down so far.
use mathlib.Core.Path.{◌≡◌}
use Rattle.rules.specs.Run.{changed}
use Rattle.stack.proofs.Pushed.{Packing}
use Rattle.stack.proofs.Stack.drop_changed.Given as goal

abbrev pub invariant-loop-i : goal.invariant-loop-i
invariant-loop-i l =
    Packing l.line (changed 0 l.before l.answer) l.initial.self.codes.now l.self.codes.now l.i l.kept
    × (l.self.codes.ghost_name ≡ l.initial.self.codes.ghost_name)
