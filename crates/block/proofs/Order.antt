-- The rules of each public call stand in the order of their numbers, so that a refusal tells the lowest number of a broken rule.
use Rattle.std.specs.Prelude.{Err}
use mathlib.Core.Path.{◌≡◌, refl}
use mathlib.Core.Bool.{Bool}
use Rattle.rules.specs.Block.{Lent}
use Rattle.rules.specs.Refusal.{verdict, block_rules, Lowest}
use Rattle.rules.specs.declared.Refusal.{Refusal}
use Rattle.rules.proofs.Verdicts.{verdict_lowest}

-- partial_sums and block_starts
pub sums_lowest : (b : Lent) (fits : Bool) {w : Refusal} → verdict (block_rules b fits) ≡ Err w → Lowest (block_rules b fits) w
sums_lowest b fits e = verdict_lowest 0 (block_rules b fits) refl e
