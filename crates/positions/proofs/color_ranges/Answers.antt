-- `color_ranges` meets its contract: the rules, and then the ranges.
use Rattle.std.proofs.Common.{rules}
use mathlib.Core.Path.{sym}
use Rattle.std.proofs.lemmas.Result.{err_from_is_err_and}
use Rattle.positions.proofs.Told.{color_refused, color_fit, color_done}
use Rattle.positions.proofs.color_ranges.Goals as goal

pub write_all-requires : goal.write_all-requires
write_all-requires c =
    color_fit c.args.length c.args.blocks.now.sizes.now c.args.blocks.now.colours.now c.args.out_colours.now c.args.out_from.now
    c.args.out_to.now (search rules) (sym c.in_ok-slack.ensures)

pub returns-in_err-slack : goal.returns-in_err-slack
returns-in_err-slack c =
    let p = err_from_is_err_and c.from_residual.result c.from_residual.ensures.1 in
    rw (p.1, p.2)
    (color_refused c.args.length c.args.blocks.now.sizes.now c.args.blocks.now.colours.now c.args.out_colours.now c.args.out_from.now
    c.args.out_to.now (search rules) (sym c.in_err-slack.ensures))

pub returns : goal.returns
returns c =
    color_done c.args.length c.args.blocks.now.sizes.now c.args.blocks.now.colours.now c.args.out_colours.now c.args.out_from.now
    c.args.out_to.now (search rules) (sym c.in_ok-slack.ensures) c.write_all.ensures
