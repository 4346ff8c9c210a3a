-- The rules of each public call stand in the order of their numbers, so that a refusal tells the lowest number of a broken rule.
use Rattle.std.specs.Prelude.{Err}
use mathlib.Core.Path.{◌≡◌, refl}
use mathlib.Core.Bool.{Bool}
use mathlib.Core.List.{◌++◌}
use Prim.Native.Nat.{ℕ}
use Rattle.rules.specs.Refusal.{verdict, length_rules, Lowest}
use Rattle.rules.specs.declared.Refusal.{Refusal}
use Rattle.rules.proofs.Verdicts.{verdict_lowest}
use Rattle.clue.specs.Calls.{room_rules, code_rules}

-- from_line, coloured and binary
pub clue_lowest : (n : ℕ) (fits bad : Bool) {w : Refusal} → verdict (length_rules n ++ code_rules fits bad) ≡ Err w → Lowest (length_rules n ++ code_rules fits bad) w
clue_lowest n fits bad e = verdict_lowest 0 (length_rules n ++ code_rules fits bad) refl e

pub binary_clue_lowest : (n : ℕ) (fits : Bool) {w : Refusal} → verdict (length_rules n ++ room_rules fits) ≡ Err w → Lowest (length_rules n ++ room_rules fits) w
binary_clue_lowest n fits e = verdict_lowest 0 (length_rules n ++ room_rules fits) refl e
