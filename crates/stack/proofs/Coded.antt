-- The numbers of lines, and the stack after a store.
use mathlib.Core.Path.{◌≡◌, refl, sym, ap, ap₂, ◌∙◌}
use mathlib.Core.Bool.{Bool, true, false}
use mathlib.Core.Logic.{⊎_elim}
use mathlib.Core.List.{List, ◌∷◌}
use Prim.Native.Nat.{ℕ, zero, suc, ◌+◌, ◌-◌, ◌≤◌, ◌<◌}
use native.Mathlib.Omega.{arith}
use borrow.Author.Tests.{lt-ltb, le-ltb, eq-eqb, ne_eqb, ltb-true, ltb-false}
use lib.Dec.{eqb, ltb}
use lib.ListN.{length, set}
use lib.Seq.{get_or-set_same, get_or-set_other}
use Rattle.rules.specs.declared.LinePosition.{LinePosition}
use Rattle.rules.specs.Board.{row, column}
use Rattle.rules.specs.Run.{same_line_of}
use Rattle.rules.proofs.Tests.{nat_eq_cases}
use Rattle.stack.specs.Stack.{line_of_code, stack_of}

-- ---- codes

pub code_row : (y : ℕ) → line_of_code (y + 64) ≡ row y
code_row y = rw (le-ltb (y + 64) 64 (omega arith)) (ap row (omega arith))

pub code_column : (x : ℕ) → x < 64 → line_of_code x ≡ column x
code_column x h = rw (lt-ltb x 64 h)

-- two codes are the same number exactly if they are the same line
pub same_code : (a b : ℕ) → same_line_of (line_of_code a) (line_of_code b) ≡ eqb a b
same_code a b = go (ltb a 64) refl (ltb b 64) refl
  where
    eqv : (x y : ℕ) → (x ≡ y → a ≡ b) → (a ≡ b → x ≡ y) → eqb x y ≡ eqb a b
    eqv x y f g = ⊎_elim (λ p. p.1 ∙ sym (eq-eqb a b (f p.0))) (λ p. p.1 ∙ sym (ne_eqb a b (λ e. p.0 (g e)))) (nat_eq_cases x y)

    go : (s : Bool) → ltb a 64 ≡ s → (t : Bool) → ltb b 64 ≡ t → same_line_of (line_of_code a) (line_of_code b) ≡ eqb a b
    go true e true f = rw (e, f)
    go true e false f = rw (e, f) (sym (ne_eqb a b (λ q. omega (arith, ltb-true a 64 e, ltb-false b 64 f))))
    go false e true f = rw (e, f) (sym (ne_eqb a b (λ q. omega (arith, ltb-false a 64 e, ltb-true b 64 f))))
    go false e false f =
        rw (e, f) (eqv (a - 64) (b - 64) (λ q. omega (arith, ltb-false a 64 e, ltb-false b 64 f)) (λ q. omega arith))

-- ---- the stack

pub length_stack : (s : List ℕ) (n : ℕ) → length (stack_of s n) ≡ n
length_stack s zero = refl
length_stack s (suc n) = ap suc (length_stack s n)

-- a store above the top changes nothing
stack_set : (s : List ℕ) (i v n : ℕ) → n ≤ i → stack_of (set s i v) n ≡ stack_of s n
stack_set s i v zero h = refl
stack_set s i v (suc n) h =
    ap₂ (λ (c : ℕ) (st : List LinePosition). line_of_code c ∷ st) (get_or-set_other s i n v 0 (omega arith)) (stack_set s i v n (omega arith))

-- a code stored right above the top
pub stack_put : (s : List ℕ) (n v : ℕ) → n < length s → stack_of (set s n v) (suc n) ≡ line_of_code v ∷ stack_of s n
stack_put s n v h =
    ap₂ (λ (c : ℕ) (st : List LinePosition). line_of_code c ∷ st) (get_or-set_same s n v 0 h) (stack_set s n v n (omega arith))
