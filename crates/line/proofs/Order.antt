-- The rules of each public call stand in the order of their numbers, so that a refusal tells the lowest number of a broken rule.
use Rattle.std.specs.Prelude.{Err}
use mathlib.Core.Path.{◌≡◌, refl}
use mathlib.Core.List.{List}
use Prim.Native.Nat.{ℕ}
use Rattle.rules.specs.Block.{Lent}
use Rattle.rules.specs.Refusal.{verdict, Lowest}
use Rattle.rules.specs.declared.Refusal.{Refusal}
use Rattle.rules.proofs.Verdicts.{verdict_lowest}
use Rattle.line.specs.Calls.{line_rules, binary_line_rules}

pub line_lowest : (n : ℕ) (b : Lent) (memo out : ℕ) {w : Refusal} → verdict (line_rules n b memo out) ≡ Err w → Lowest (line_rules n b memo out) w
line_lowest n b memo out e = verdict_lowest 0 (line_rules n b memo out) refl e

pub binary_line_lowest : (cells sizes : List ℕ) (memo out : ℕ) {w : Refusal} → verdict (binary_line_rules cells sizes memo out) ≡ Err w
    → Lowest (binary_line_rules cells sizes memo out) w
binary_line_lowest cells sizes memo out e = verdict_lowest 0 (binary_line_rules cells sizes memo out) refl e
