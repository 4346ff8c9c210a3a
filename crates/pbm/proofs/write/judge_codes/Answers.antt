-- `write::judge_codes` meets its contract: one rule after the other.
use Rattle.pbm.proofs.Told.{ink_room, ink_code}
use mathlib.Core.Path.{sym, ◌∙◌}
use native.Mathlib.Omega.{arith}
use Rattle.pbm.proofs.write.judge_codes.Goals as goal

pub returns-then-room-heading_length : goal.returns-then-room-heading_length
returns-then-room-heading_length c =
    sym
    (ink_room c.args.sides.width c.args.sides.height c.args.codes.now c.args.room c.if-codes-sides.false (omega (arith, c.if-room-heading_length.true, c.heading_length.ensures)))

pub returns-then-any_other : goal.returns-then-any_other
returns-then-any_other c =
    sym
    (ink_code c.args.sides.width c.args.sides.height c.args.codes.now c.args.room c.if-codes-sides.false
    (omega (arith, c.if-room-heading_length.false, c.heading_length.ensures)) (sym c.any_other.ensures ∙ c.if-any_other.true))

pub returns : goal.returns
returns c =
    sym
    (ink_code c.args.sides.width c.args.sides.height c.args.codes.now c.args.room c.if-codes-sides.false
    (omega (arith, c.if-room-heading_length.false, c.heading_length.ensures)) (sym c.any_other.ensures ∙ c.if-any_other.false))
