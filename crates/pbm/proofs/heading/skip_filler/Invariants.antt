-- `heading::skip_filler` meets its contract: what is left leaves the same.
use Rattle.rules.specs.Pbm.{past_filler}
use lib.ListN.{drop}
use mathlib.Core.Bool.{false}
use mathlib.Core.Path.{◌≡◌}
use Rattle.pbm.proofs.heading.skip_filler.Given as goal

abbrev pub invariant-loop-i : goal.invariant-loop-i
invariant-loop-i l = past_filler l.open (drop l.i l.text) ≡ past_filler false l.text
