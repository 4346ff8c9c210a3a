-- `binary::clues_from_solution` meets its contract: the rules, and then a pass for each list.
use mathlib.Core.Path.{sym}
use Rattle.picture.proofs.Told.{lists_done, binary_known}
use Rattle.clue.specs.declared.Ink.TheVariants.{Black}
use Rattle.picture.proofs.binary.clues_from_solution.Goals as goal

pub returns : goal.returns
returns c =
    let v = sym c.in_ok-judge_grid.ensures in
    lists_done Black c.args.blank c.args.width c.args.height c.args.codes.now v
    (binary_known c.args.width c.args.height c.args.codes.now c.args.row_counts.now c.args.row_sizes.now
    c.args.column_counts.now c.args.column_sizes.now v).1
    c.write_clues.ensures
