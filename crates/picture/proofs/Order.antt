-- The rules of each public call stand in the order of their numbers, so that a refusal tells the lowest number of a broken rule.
use Rattle.std.specs.Prelude.{Err}
use mathlib.Core.Path.{◌≡◌, refl}
use mathlib.Core.Bool.{Bool}
use mathlib.Core.List.{◌++◌}
use Prim.Native.Nat.{ℕ}
use Rattle.rules.specs.Refusal.{verdict, side_rules, Lowest}
use Rattle.rules.specs.declared.Refusal.{Refusal}
use Rattle.rules.proofs.Verdicts.{verdict_lowest}
use Rattle.clue.specs.Calls.{room_rules}
use Rattle.picture.specs.Calls.{grid_rules}

-- clues_from_solution, coloured and binary
pub grid_lowest : (w h : ℕ) (fits bad : Bool) {r : Refusal} → verdict (grid_rules w h fits bad) ≡ Err r → Lowest (grid_rules w h fits bad) r
grid_lowest w h fits bad e = verdict_lowest 0 (grid_rules w h fits bad) refl e

pub binary_grid_lowest : (w h : ℕ) (fits : Bool) {r : Refusal} → verdict (side_rules w h ++ room_rules fits) ≡ Err r → Lowest (side_rules w h ++ room_rules fits) r
binary_grid_lowest w h fits e = verdict_lowest 0 (side_rules w h ++ room_rules fits) refl e
