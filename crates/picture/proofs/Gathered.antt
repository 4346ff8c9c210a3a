-- Lines one after the other: the turns of a loop that writes the clue of each.
use Prim.Native.Nat.{◌≤◌, ◌-◌, ℕ, suc, ◌+◌, ◌<◌, ◌*◌}
use lib.ListN.{length}
use mathlib.Core.List.{List, ◌++◌}
use mathlib.Core.Path.{◌≡◌, sym, ap, ◌∙◌}
use native.Mathlib.Numerals.{add-one}
use native.Mathlib.Omega.{arith}
use Rattle.loops.proofs.Going.{Going, going_puts}
use Rattle.loops.specs.Put.{Put}
use Rattle.rules.specs.Block.{Block}
use Rattle.rules.specs.Card.{lines_from, gathered}

-- of the n lines that f gives, the first y are written, which are at most p entries each; those that are left give the whole
pub record Turn (F : List Block → List ℕ) (f : ℕ → List Block) (n p : ℕ) (out₀ out : List ℕ) (at y : ℕ) : Type 0 where
  pub low : at ≤ y * p
  pub going : Going out₀ 0 (gathered F (lines_from f 0 n)) out at (gathered F (lines_from f y (n - y)))

lines_step : (F : List Block → List ℕ) (f : ℕ → List Block) (y n : ℕ) → y < n
    → gathered F (lines_from f y (n - y)) ≡ F (f y) ++ gathered F (lines_from f (y + 1) (n - (y + 1)))
lines_step F f y n h = ap (λ m. gathered F (lines_from f y m)) less ∙ ap (λ m. F (f y) ++ gathered F (lines_from f m (n - (y + 1)))) (sym (add-one y))
  where
    less : n - y ≡ suc (n - (y + 1))
    less = omega arith

module _ {F : List Block → List ℕ} {f : ℕ → List Block} {n p : ℕ} where
  module _ {out₀ out : List ℕ} {at y : ℕ} (t : Turn F f n p out₀ out at y) where
    pub turn_next : {out' : List ℕ} {at' : ℕ} → y < n → Put out at (F (f y)) at' out' → length (F (f y)) ≤ p → Turn F f n p out₀ out' at' (y + 1)
    turn_next {out'} {at'} h w l = record { low = next; going = going_puts t.going (lines_step F f y n h) w }
      where
        next : at' ≤ (y + 1) * p
        next = omega (arith, t.low, w.end)
