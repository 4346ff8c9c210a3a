-- In which order the rules of each public call stand. Those of writing ascend, and so do those of reading once the heading is read; before
-- it there is one rule alone, 11. So a refusal tells the lowest number of a broken rule of its stage.
use Rattle.std.specs.Prelude.{Err}
use mathlib.Core.Path.{◌≡◌, refl}
use mathlib.Core.List.{List}
use mathlib.Core.Option.{Option, none, some}
use Prim.Native.Nat.{ℕ}
use Rattle.rules.specs.Pbm.{Heading, read_rules, write_rules}
use Rattle.rules.specs.Refusal.{verdict, Lowest}
use Rattle.rules.specs.declared.Refusal.{Refusal}
use Rattle.rules.proofs.Verdicts.{verdict_lowest}

-- write_pbm
pub write_lowest : (w h : ℕ) (b : List ℕ) (room : ℕ) {r : Refusal} → verdict (write_rules w h b room) ≡ Err r → Lowest (write_rules w h b room) r
write_lowest w h b room e = verdict_lowest 0 (write_rules w h b room) refl e

-- read_pbm, stage by stage
pub read_lowest : (room : ℕ) (found : Option Heading) {r : Refusal} → verdict (read_rules room found) ≡ Err r → Lowest (read_rules room found) r
read_lowest room none e = verdict_lowest 0 (read_rules room none) refl e
read_lowest room (some t) e = verdict_lowest 0 (read_rules room (some t)) refl e
