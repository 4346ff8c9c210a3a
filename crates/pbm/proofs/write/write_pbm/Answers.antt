-- `write::write_pbm` meets its contract: the rules, and then the heading and the rows.
use Rattle.pbm.proofs.Told.{Writing, writing_fine, writes_page}
use Rattle.pbm.proofs.Pages.{adds_then}
use Rattle.rules.proofs.PbmRounds.{text_length}
use Rattle.std.proofs.Common.{rules}
use lib.ListN.{length}
use mathlib.Core.Path.{sym, ap}
use native.Mathlib.Omega.{arith}
use Rattle.pbm.proofs.write.write_pbm.Goals as goal
use Rattle.pbm.proofs.write.write_pbm.Goals.{In_ok-judge_picture}

-- no rule is broken
fine : (c : In_ok-judge_picture) → Writing c.args.width c.args.height c.args.codes.now (length c.args.text.now)
fine c = writing_fine c.args.width c.args.height c.args.codes.now (length c.args.text.now) (sym c.in_ok-judge_picture.ensures)

pub write_rows-requires : goal.write_rows-requires
write_rows-requires c =
    let f = fine (goal.at.write_rows-requires c).In_ok-judge_picture in
    record {
      wide = f.sides.0;
      size = f.size;
      inked = f.inked;
      room = omega (arith, f.fits, text_length c.args.width c.args.height c.args.codes.now f.size, c.new-page.ensures.end, ap length c.new-page.ensures.text, c.write_heading.ensures.end, c.write_heading.ensures.long);
    }

pub returns : goal.returns
returns c =
    writes_page c.args.width c.args.height c.args.codes.now (sym c.in_ok-judge_picture.ensures) c.new-page.ensures.text c.new-page.ensures.end
    (adds_then c.write_heading.ensures c.write_rows.ensures) c.count.ensures (search rules)
