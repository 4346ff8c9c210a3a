-- The rules of each kind of run stand in the order of their numbers, so that a refusal tells the lowest number of a broken rule.
use Rattle.std.specs.Prelude.{Err}
use mathlib.Core.Path.{◌≡◌, refl}
use mathlib.Core.List.{List}
use Prim.Native.Nat.{ℕ}
use Rattle.rules.specs.Card.{Card}
use Rattle.rules.specs.Refusal.{verdict, Lowest}
use Rattle.rules.specs.declared.Refusal.{Refusal}
use Rattle.rules.proofs.Verdicts.{verdict_lowest}
use Rattle.run.specs.declared.Start.{Start}
use Rattle.propagation.specs.Calls.{run_rules, binary_run_rules}

module _ (w h : ℕ) (s : Start) (c : Card) (grid : List ℕ) (report memo stack : ℕ) {r : Refusal} where
  pub run_lowest : verdict (run_rules w h s c grid report memo stack) ≡ Err r → Lowest (run_rules w h s c grid report memo stack) r
  run_lowest e = verdict_lowest 0 (run_rules w h s c grid report memo stack) refl e

  pub binary_run_lowest : verdict (binary_run_rules w h s c grid report memo stack) ≡ Err r → Lowest (binary_run_rules w h s c grid report memo stack) r
  binary_run_lowest e = verdict_lowest 0 (binary_run_rules w h s c grid report memo stack) refl e
