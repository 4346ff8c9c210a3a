-- `binary::from_line` meets its contract: the rules, and then the pass.
use lib.Dec.{leb}
use lib.ListN.{length}
use mathlib.Core.Path.{sym, ◌∙◌}
use Rattle.clue.proofs.Told.{binary_line_fine, binary_done}
use Rattle.clue.specs.Calls.{room_rules}
use Rattle.rules.proofs.Verdicts.{append_fine}
use Rattle.rules.specs.Refusal.{length_rules}
use Rattle.clue.proofs.binary.from_line.Goals as goal

pub returns : goal.returns
returns c =
    let n = length c.args.codes.now in
    let m = length c.args.sizes.now in
    let v = append_fine (length_rules n) (room_rules (leb n m)) (sym c.in_ok-judge_length.ensures) ∙ sym c.in_ok-judge_room.ensures in
    binary_done c.args.blank c.args.codes.now v c.write_clue.ensures (binary_line_fine n m v).1
