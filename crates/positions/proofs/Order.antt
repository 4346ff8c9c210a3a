-- The rules of each public call stand in the order of their numbers, so that a refusal tells the lowest number of a broken rule.
use Rattle.std.specs.Prelude.{Err}
use mathlib.Core.Path.{◌≡◌, refl}
use mathlib.Core.Bool.{Bool}
use Prim.Native.Nat.{ℕ}
use Rattle.rules.specs.Block.{Lent}
use Rattle.rules.specs.Refusal.{verdict, Lowest}
use Rattle.rules.specs.declared.Refusal.{Refusal}
use Rattle.rules.proofs.Verdicts.{verdict_lowest}
use Rattle.positions.specs.Calls.{range_rules}

-- positions_number and color_ranges
pub ranges_lowest : (n : ℕ) (b : Lent) (fits : Bool) {w : Refusal} → verdict (range_rules n b fits) ≡ Err w → Lowest (range_rules n b fits) w
ranges_lowest n b fits e = verdict_lowest 0 (range_rules n b fits) refl e
