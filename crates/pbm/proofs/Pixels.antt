-- The cells of a raster: how many there are, and the first of those that are left.
use mathlib.Core.Path.{◌≡◌, refl, sym, ap, ◌∙◌}
use mathlib.Core.Bool.{Bool, true, false, cond}
use mathlib.Core.List.{List, [], ◌∷◌}
use lib.ListN.{length}
use Prim.Native.Nat.{ℕ, ◌+◌}
use native.Mathlib.Omega.{arith}
use Rattle.std.specs.Prelude.{Some, None}
use Rattle.std.specs.List.{count_by, FoldsTo}
use Rattle.std.specs.Fn.{CalledAt}
use Rattle.std.specs.Iterator.{Yields}
use Rattle.std.specs.Iterator.Adapters.{filter_source, filter_callee, filter_steps}
use Rattle.std.specs.Slice.Iter.{iter_rest, iter_steps}
use Rattle.std.proofs.Common.{Bor, Iter}
use Rattle.std.proofs.lemmas.List.Recursion.{is_count_by}
use denote.Param.Members.{Mut}
use Rattle.std.specs.declared.iter.Filter.{Filter}
use Rattle.rules.specs.Pbm.{is_pixel_of, code_of, pixels}

pub pixels_count : (t : List ℕ) → length (pixels t) ≡ count_by is_pixel_of t
pixels_count t = is_count_by (λ l. length (pixels l)) is_pixel_of refl step t
  where
    step : (c : ℕ) (l : List ℕ) → length (pixels (c ∷ l)) ≡ cond (is_pixel_of c) (1 + length (pixels l)) (length (pixels l))
    step c l = go (is_pixel_of c)
      where
        go : (b : Bool) → length (cond b (code_of c ∷ pixels l) (pixels l)) ≡ cond b (1 + length (pixels l)) (length (pixels l))
        go true = omega arith
        go false = refl

-- a filter by a closure that tells the cells
module _ {F : Type 0} (g : Mut F (Bor (Bor ℕ) × Unit {0}) Bool) (tells : (x : Bor ℕ) (b : Bool) (p q : F) → CalledAt g p x b q → b ≡ is_pixel_of x.now) where
  passed : (xs : List (Bor ℕ)) (s t : Iter ℕ) (p q : F) → Yields iter_steps s xs t → FoldsTo (λ p x q. CalledAt g p x false q) p xs q
      → pixels (iter_rest s) ≡ pixels (iter_rest t)
  passed [] s t p q y c = ap (λ j. pixels (iter_rest j)) y
  passed (x ∷ xs) s t p q y c = ap pixels y.1 ∙ rw (sym (tells x false p c.0 c.1)) (passed xs y.0 t c.0 q y.2 c.2)

  -- the cell that comes is the first of those that are left
  pub cell_comes : (s t : Filter (Iter ℕ) F) (x : Bor ℕ) → filter_steps iter_steps g s (Some x) t
      → pixels (iter_rest (filter_source s)) ≡ code_of x.now ∷ pixels (iter_rest (filter_source t))
  cell_comes s t x p =
      passed p.0 (filter_source s) p.2.0 (filter_callee s) p.1 p.2.1 p.3 ∙ ap pixels p.2.2 ∙ rw (sym (tells x true p.1 (filter_callee t) p.4))

  -- none is left where none comes
  pub no_cell : (s t : Filter (Iter ℕ) F) → filter_steps iter_steps g s None t → pixels (iter_rest (filter_source s)) ≡ []
  no_cell s t p = passed p.0 (filter_source s) p.2.0 (filter_callee s) p.1 p.2.1 p.3 ∙ empty (iter_rest p.2.0) p.2.2.0
    where
      empty : (l : List ℕ) → length l ≡ 0 → pixels l ≡ []
      empty [] e = refl
      empty (c ∷ l) e = absurd (omega arith)
