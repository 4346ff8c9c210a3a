-- The test of rule 9: it passes every placement of legal blocks.
use Rattle.std.specs.Prelude.{◌||◌}
use Rattle.std.proofs.lemmas.Bool.{or_parts}
use mathlib.Core.Path.{◌≡◌, refl, ap, ◌∙◌}
use mathlib.Core.Bool.{Bool, false, cond}
use mathlib.Core.Logic.{inl, inr}
use mathlib.Core.List.{List, [], ◌∷◌}
use Prim.Native.Nat.{ℕ, zero, suc, ◌<◌}
use native.Mathlib.Omega.{arith}
use lib.Dec.{eqb}
use lib.ListN.{length, get_or}
use Rattle.rules.specs.Colour.{Colour}
use Rattle.rules.specs.Block.{illegal_colour_of}
use Rattle.rules.specs.Answer.{Proper}
use Rattle.std.specs.List.{list_any}
use Rattle.rules.specs.Clue.{bad_code_of}
use Rattle.rules.proofs.Tests.{Compared, nat_eq_cases}
use Rattle.rules.proofs.Blocks.{colour_legal}

-- ---- a test that some number of a list passes

pub any_at : (f : ℕ → Bool) (l : List ℕ) (i : ℕ) → list_any f l ≡ false → i < length l → f (get_or l i 0) ≡ false
any_at f [] i e h = absurd (omega arith)
any_at f (d ∷ l) zero e h = (or_parts (f d) (list_any f l) e).0
any_at f (d ∷ l) (suc i) e h = any_at f l i (or_parts (f d) (list_any f l) e).1 (omega arith)

pub any-all : (f : ℕ → Bool) (l : List ℕ) → ((i : ℕ) → i < length l → f (get_or l i 0) ≡ false) → list_any f l ≡ false
any-all f [] e = refl
any-all f (d ∷ l) e = rw (e 0 (omega arith)) (any-all f l (λ i h. e (suc i) (omega arith)))

-- ---- a single colour is an allowed code

pub colour_code : (c : ℕ) → Colour c → cond (eqb c 1) false (illegal_colour_of c) ≡ false
colour_code c k = go (nat_eq_cases c 1)
  where
    go : Compared c 1 → cond (eqb c 1) false (illegal_colour_of c) ≡ false
    go (inl p) = rw p.1
    go (inr p) = ap (λ t. cond t false (illegal_colour_of c)) p.1 ∙ colour_legal c k p.0

pub proper_codes : (l : List ℕ) → Proper l → bad_code_of 1 l ≡ false
proper_codes [] p = refl
proper_codes (c ∷ l) p = ap (λ t. t || bad_code_of 1 l) (colour_code c p.0) ∙ proper_codes l p.1
