-- `multicolor::clues_from_solution` meets its contract: the rules, and then a pass for each list.
use Prim.Native.Nat.{◌*◌}
use lib.Dec.{leb}
use lib.ListN.{length}
use mathlib.Core.Bool.{◌&&◌}
use mathlib.Core.Path.{◌≡◌, sym, ◌∙◌}
use Rattle.std.proofs.lemmas.Result.{err_from_is_err_and}
use Rattle.picture.proofs.Told.{lists_refused, colours_refused, lists_done, colours_done, coloured_judged, coloured_known, colours_known}
use Rattle.picture.specs.Calls.{binary_clues_rules, coloured_clues_rules}
use Rattle.clue.specs.Calls.{code_rules}
use Rattle.clue.specs.declared.Ink.TheVariants.{Coloured}
use Rattle.rules.proofs.Verdicts.{◌then◌}
use Rattle.rules.specs.Clue.{bad_code_of}
use Rattle.rules.specs.Refusal.{verdict}
use Rattle.picture.proofs.multicolor.clues_from_solution.Goals as goal
use Rattle.picture.proofs.multicolor.clues_from_solution.Goals.{Start}

-- the rules, in the order in which the code asks them
judged : (c : Start)
    → verdict (coloured_clues_rules c.args.blank c.args.width c.args.height c.args.codes.now c.args.row_counts.now c.args.row_sizes.now c.args.row_colours.now c.args.column_counts.now c.args.column_sizes.now c.args.column_colours.now)
    ≡ verdict (binary_clues_rules c.args.width c.args.height c.args.codes.now c.args.row_counts.now c.args.row_sizes.now c.args.column_counts.now c.args.column_sizes.now) then
    verdict
    (code_rules (leb (c.args.width * c.args.height) (length c.args.row_colours.now) && leb (c.args.width * c.args.height) (length c.args.column_colours.now))
    (bad_code_of c.args.blank c.args.codes.now))
judged c =
    coloured_judged c.args.blank c.args.width c.args.height c.args.codes.now c.args.row_counts.now c.args.row_sizes.now c.args.row_colours.now
    c.args.column_counts.now c.args.column_sizes.now c.args.column_colours.now

pub returns-in_err-judge_grid : goal.returns-in_err-judge_grid
returns-in_err-judge_grid c =
    let p = err_from_is_err_and c.from_residual.result c.from_residual.ensures.1 in
    let v = judged (goal.at.returns-in_err-judge_grid c).Start ∙ rw (sym c.in_err-judge_grid.ensures) in
    rw (p.1, p.2) (record { lists = lists_refused v; colours = colours_refused v })

pub returns-in_err-judge_codes : goal.returns-in_err-judge_codes
returns-in_err-judge_codes c =
    let p = err_from_is_err_and c.from_residual-in_err-judge_codes.result c.from_residual-in_err-judge_codes.ensures.1 in
    let v = judged (goal.at.returns-in_err-judge_codes c).Start
    ∙ rw (sym c.in_ok-judge_grid.ensures, sym c.both_room.ensures, sym c.bad_code.ensures) (sym c.in_err-judge_codes.ensures) in
    rw (p.1, p.2) (record { lists = lists_refused v; colours = colours_refused v })

pub returns : goal.returns
returns c =
    let v = judged (goal.at.returns c).Start
    ∙ rw (sym c.in_ok-judge_grid.ensures, sym c.both_room.ensures, sym c.bad_code.ensures) (sym c.in_ok-judge_codes.ensures) in
    let room = colours_known c.args.width c.args.height c.args.codes.now c.args.row_counts.now c.args.row_sizes.now
    c.args.column_counts.now c.args.column_sizes.now c.args.blank c.args.row_colours.now c.args.column_colours.now v in
    record {
      lists = lists_done Coloured c.args.blank c.args.width c.args.height c.args.codes.now v
          (coloured_known c.args.width c.args.height c.args.codes.now c.args.row_counts.now c.args.row_sizes.now
          c.args.column_counts.now c.args.column_sizes.now c.args.blank c.args.row_colours.now c.args.column_colours.now v).1
          c.write_clues-totals.ensures;
      colours = colours_done Coloured c.args.blank c.args.width c.args.height c.args.codes.now v room.0 room.1 c.write_colours.ensures;
    }
