-- `multicolor::from_line` meets its contract: the rules, and then a pass for each list.
use lib.ListN.{length}
use mathlib.Core.Path.{sym, ◌∙◌}
use Rattle.clue.proofs.Told.{line_fine, line_same, coloured_done}
use Rattle.clue.specs.Calls.{code_rules}
use Rattle.rules.proofs.Tests.{rooms}
use Rattle.rules.proofs.Verdicts.{append_fine}
use Rattle.rules.specs.Refusal.{length_rules}
use Rattle.clue.proofs.multicolor.from_line.Goals as goal

pub returns : goal.returns
returns c =
    let n = length c.args.codes.now in
    let v = append_fine (length_rules n) (code_rules c.both_room.result c.bad_code.result) (sym c.in_ok-judge_length.ensures) ∙ sym c.in_ok-judge_codes.ensures in
    let r = rooms n (length c.args.sizes.now) (length c.args.colours.now) (sym c.both_room.ensures ∙ (line_fine n c.both_room.result c.bad_code.result v).1) in
    coloured_done c.args.blank c.args.codes.now (line_same n c.both_room.ensures c.bad_code.ensures ∙ v)
    c.write_clue-blocks.ensures c.write_clue.ensures r.0 r.1
