-- `read::read_pbm` meets its contract: the heading, and then what follows it.
use Rattle.std.proofs.Common.{rules, Some}
use Rattle.std.proofs.lemmas.Result.{err_from_is_err_and}
use Rattle.pbm.proofs.Told.{reads_refused, reads_done, reads_found}
use Rattle.pbm.specs.Steps.{HeadingRead}
use Rattle.rules.specs.Pbm.{heading}
use mathlib.Core.Path.{◌≡◌, sym}
use Rattle.pbm.proofs.read.read_pbm.Goals as goal
use Rattle.pbm.proofs.read.read_pbm.Goals.{In_ok-heading}

-- the heading that was read
found : (c : In_ok-heading) → HeadingRead (heading c.args.text.now) (Some c.in_ok-heading.heading)
found c = let e : c.read_heading.result ≡ Some c.in_ok-heading.heading = search rules in rw e at c.read_heading.ensures

pub returns-in_err-judge_drawing : goal.returns-in_err-judge_drawing
returns-in_err-judge_drawing c =
    let p = err_from_is_err_and c.from_residual-in_err-judge_drawing.result c.from_residual-in_err-judge_drawing.ensures.1 in
    rw (p.1, p.2) (reads_found c.in_ok-heading.heading (found (goal.at.returns-in_err-judge_drawing c).In_ok-heading) (reads_refused (sym c.in_err-judge_drawing.ensures)))

pub returns : goal.returns
returns c =
    reads_found c.in_ok-heading.heading (found (goal.at.returns c).In_ok-heading)
    (reads_done c.in_ok-heading.heading.sides.width c.in_ok-heading.heading.sides.height c.in_ok-heading.heading.rest.now c.args.codes.now (sym c.in_ok-judge_drawing.ensures)
    c.write_pixels.ensures)
