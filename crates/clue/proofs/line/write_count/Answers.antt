-- `line::write_count` meets its contract.
use lib.ListN.{set}
use mathlib.Core.Path.{refl, ap}
use Rattle.clue.proofs.Runs.{clue_low}
use native.Mathlib.Omega.{arith}
use Rattle.clue.proofs.line.write_count.Goals as goal

pub overflow_cast-out : goal.overflow_cast-out
overflow_cast-out c =
    omega (arith, c.requires.0, c.count_blocks.ensures, clue_low c.args.reading.ink c.args.reading.blank c.args.line.now)

pub returns : goal.returns
returns c =
    record { end = refl; holds = ap (λ v. set c.args.out.now c.args.at v) c.count_blocks.ensures }
