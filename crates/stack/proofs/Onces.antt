-- Each line stands once on the stack, so the stack never has more than width + height lines, for which there is room.
use mathlib.Core.Path.{◌≡◌, refl, sym, ap, ◌∙◌, subst}
use mathlib.Core.Bool.{Bool, true, false, cond}
use mathlib.Core.Logic.{◌⊎◌, inl, inr, ⊎_elim, ◌≢◌}
use mathlib.Core.List.Memᴰ
use mathlib.Core.List.{List, [], ◌∷◌, ◌++◌, map, reverse_aux, Memᴰ}
use Prim.Native.Nat.{ℕ, zero, suc, ◌+◌, ◌≤◌, ◌<◌}
use native.Mathlib.Omega.{arith}
use lib.Dec.{leb}
use lib.ListN.{length}
use Rattle.rules.specs.declared.LinePosition.{LinePosition}
use Rattle.rules.specs.declared.LinePosition.TheVariants.{Row, Column}
use Rattle.rules.specs.Board.{row, column, len, On, cross}
use Rattle.rules.specs.Refusal.{stack_size}
use Rattle.rules.specs.Run.{same_line_of, remove, push_all, up_from, distance, insert, sorted, full_stack, point_stack}
use Rattle.rules.proofs.Lists.{map-mem}
use Rattle.rules.proofs.Stacks.{index_of, line_cases, remove_mem, mem_remove, length_remove, push_all-mem, insert-mem, sorted_mem, full_stack_on, on_full_stack, length-full_stack}
use Rattle.rules.proofs.Runs.{cross_on}
use Rattle.stack.specs.Stack.{Once, no_lines, one_more, Lines}

-- a row is no column
other_way : (x y : ℕ) → row y ≡ column x → ⊥
other_way x y e = let z : ◌≡◌ {A = ℕ} 0 1 = cc in omega arith

cross_other : (l : LinePosition) (j : ℕ) → l ≡ cross l j → ⊥
cross_other (Row y) j e = other_way j y.0 e
cross_other (Column x) j e = other_way x.0 j (sym e)

once_rest : {l : LinePosition} {st : List LinePosition} → Once (l ∷ st) → Once st
once_rest (one_more n o) = o

once_first : {l : LinePosition} {st : List LinePosition} → Once (l ∷ st) → Memᴰ l st → ⊥
once_first (one_more n o) = n

-- ---- after a push

-- two lines are the same and their test says so, or they are not and it says that
abbrev SameOrNot : LinePosition → LinePosition → Type 0
SameOrNot l x = ((l ≡ x) × (same_line_of l x ≡ true)) ⊎ ((l ≢ x) × (same_line_of l x ≡ false))

remove_not : (l : LinePosition) (st : List LinePosition) → Memᴰ l (remove l st) → ⊥
remove_not l [] m = Memᴰ.not-nil m
remove_not l (x ∷ st) m = go (line_cases l x) m (remove_not l st)
  where
    go : SameOrNot l x → Memᴰ l (cond (same_line_of l x) (remove l st) (x ∷ remove l st)) → (Memᴰ l (remove l st) → ⊥) → ⊥
    go (inl p) n up = up (rw p.1 at n)
    go (inr p) n up = ⊎_elim p.0 up (Memᴰ.cases_cons (rw p.1 at n))

once_remove : (l : LinePosition) {st : List LinePosition} → Once st → Once (remove l st)
once_remove l no_lines = no_lines
once_remove l (one_more {l = x} {st = st} n o) = go (same_line_of l x) (once_remove l o)
  where
    go : (b : Bool) → Once (remove l st) → Once (cond b (remove l st) (x ∷ remove l st))
    go true u = u
    go false u = one_more (λ m. n (remove_mem l st m)) u

once_push_all : (l : LinePosition) (js : List ℕ) {st : List LinePosition} → Once st → Once (push_all l js st)
once_push_all l [] o = o
once_push_all l (j ∷ js) {st} o = one_more (remove_not (cross l j) (push_all l js st)) (once_remove (cross l j) (once_push_all l js o))

-- ---- no more lines than there are

shorter : (l : LinePosition) (st : List LinePosition) → Memᴰ l st → length (remove l st) < length st
shorter l [] m = absurd (Memᴰ.not-nil m)
shorter l (x ∷ st) m = go (line_cases l x) (Memᴰ.cases_cons m) (shorter l st)
  where
    go : SameOrNot l x → (l ≡ x) ⊎ Memᴰ l st → (Memᴰ l st → length (remove l st) < length st)
        → length (cond (same_line_of l x) (remove l st) (x ∷ remove l st)) < suc (length st)
    go (inl p) q up = rw p.1 (omega (arith, length_remove l st))
    go (inr p) (inl e) up = absurd (p.0 e)
    go (inr p) (inr n) up = rw p.1 (omega (arith, up n))

pigeon : (st all : List LinePosition) → Once st → ((k : LinePosition) → Memᴰ k st → Memᴰ k all) → length st ≤ length all
pigeon [] all o f = omega arith
pigeon (l ∷ st) all o f =
    let other : (k : LinePosition) → Memᴰ k st → k ≢ l = λ k m e. once_first o (subst (λ (t : LinePosition). Memᴰ t st) e m) in
    omega (
      arith,
      pigeon st (remove l all) (once_rest o) (λ k m. mem_remove l all (other k m) (f k (Memᴰ.tail m))),
      shorter l all (f l (Memᴰ.head refl)),
    )

module _ {w h : ℕ} where
  -- a stack has no more lines than the board
  pub lines_few : {st : List LinePosition} → Lines w h st → length st ≤ w + h
  lines_few {st} v = omega (arith, pigeon st (full_stack w h) v.once (λ k m. on_full_stack w h k (v.on k m)), length-full_stack w h)

  -- so the stack that document 01 asks for has room for every line once
  pub lines_fit : w ≤ 64 → h ≤ 64 → {st : List LinePosition} → Lines w h st → length st ≤ stack_size
  lines_fit wide high v = omega (arith, lines_few v)

  -- a line was taken: what is left
  pub lines_rest : {l : LinePosition} {st : List LinePosition} → Lines w h (l ∷ st) → Lines w h st
  lines_rest v = record { on = λ k m. v.on k (Memᴰ.tail m); once = once_rest v.once }

  -- and what its changes push leaves room for it
  pub lines_push : {l : LinePosition} {st : List LinePosition} → Lines w h (l ∷ st) → (js : List ℕ) → ((j : ℕ) → Memᴰ j js → j < len w h l)
      → Lines w h (l ∷ push_all l js st)
  lines_push {l} {st} v js small = record {
    on = λ k m. ⊎_elim (λ e. subst (On w h) (sym e) (v.on l (Memᴰ.head refl))) (λ n. pushed k (push_all-mem l js st n)) (Memᴰ.cases_cons m);
    once = one_more (λ m. other (push_all-mem l js st m)) (once_push_all l js (once_rest v.once));
  }
    where
      pushed : (k : LinePosition) → ((j : ℕ) × Memᴰ j js × (k ≡ cross l j)) ⊎ Memᴰ k st → On w h k
      pushed k (inl (j, n, e)) = subst (On w h) (sym e) (cross_on w h l j (small j n))
      pushed k (inr n) = v.on k (Memᴰ.tail n)

      other : ((j : ℕ) × Memᴰ j js × (l ≡ cross l j)) ⊎ Memᴰ l st → ⊥
      other (inl (j, n, e)) = cross_other l j e
      other (inr n) = once_first v.once n

  pub lines_space : {l : LinePosition} {st : List LinePosition} → Lines w h (l ∷ st) → (js : List ℕ) → ((j : ℕ) → Memᴰ j js → j < len w h l)
      → length (push_all l js st) < w + h
  lines_space v js small = lines_few (lines_push v js small)

  -- the two lines through a point
  pub lines_point : (x y : ℕ) → x < w → y < h → Lines w h (point_stack x y)
  lines_point x y p q = record {
    on = λ k m. ⊎_elim (λ e. subst (On w h) (sym e) q) (λ u. subst (On w h) (sym (Memᴰ.eq_of_singleton u)) p) (Memᴰ.cases_cons m);
    once = one_more (λ m. other_way x y (Memᴰ.eq_of_singleton m)) (one_more Memᴰ.not-nil no_lines);
  }

-- ---- all lines

once_insert : (w h : ℕ) (l : LinePosition) {st : List LinePosition} → (Memᴰ l st → ⊥) → Once st → Once (insert w h l st)
once_insert w h l n no_lines = one_more n no_lines
once_insert w h l n (one_more {l = m} {st = st} k o) =
    go (leb (distance w h l) (distance w h m)) (once_insert w h l (λ u. n (Memᴰ.tail u)) o)
  where
    go : (b : Bool) → Once (insert w h l st) → Once (cond b (l ∷ m ∷ st) (m ∷ insert w h l st))
    go true r = one_more n (one_more k o)
    go false r = one_more (λ u. ⊎_elim (λ e. n (Memᴰ.head (sym e))) k (insert-mem w h l st u)) r

once_sorted : (w h : ℕ) {st : List LinePosition} → Once st → Once (sorted w h st)
once_sorted w h no_lines = no_lines
once_sorted w h (one_more {l = l} {st = st} n o) = once_insert w h l (λ u. n (sorted_mem w h st u)) (once_sorted w h o)

-- no line stands in both lists
abbrev Disjoint : List LinePosition → List LinePosition → Type 0
Disjoint a b = (l : LinePosition) → Memᴰ l a → Memᴰ l b → ⊥

once_onto : {a b : List LinePosition} → Once a → Once b → Disjoint a b → Once (reverse_aux a b)
once_onto no_lines p d = p
once_onto {b = b} (one_more {l = l} {st = st} n o) p d =
    once_onto o (one_more (d l (Memᴰ.head refl)) p)
    (λ k u v. ⊎_elim (λ (e : k ≡ l). n (subst (λ (t : LinePosition). Memᴰ t st) e u)) (λ z. d k (Memᴰ.tail u) z) (Memᴰ.cases_cons v))

once_append : {a b : List LinePosition} → Once a → Once b → Disjoint a b → Once (a ++ b)
once_append no_lines p d = p
once_append {b = b} (one_more {l = l} {st = st} n o) p d =
    one_more (λ u. ⊎_elim n (d l (Memᴰ.head refl)) (Memᴰ.append_cases st u)) (once_append o p (λ k u v. d k (Memᴰ.tail u) v))

up_from_low : (m n i : ℕ) → Memᴰ i (up_from m n) → m ≤ i
up_from_low m zero i u = absurd (Memᴰ.not-nil u)
up_from_low m (suc n) i u = ⊎_elim (λ e. omega arith) (λ v. omega (arith, up_from_low (suc m) n i v)) (Memᴰ.cases_cons u)

once_map : (f : ℕ → LinePosition) → ((i j : ℕ) → f i ≡ f j → i ≡ j) → (m n : ℕ) → Once (map f (up_from m n))
once_map f inj m zero = no_lines
once_map f inj m (suc n) =
    one_more {l = f m} {st = map f (up_from (suc m) n)}
    (λ u. let r = map-mem f (up_from (suc m) n) u in omega (arith, up_from_low (suc m) n r.0 r.1, inj m r.0 r.2))
    (once_map f inj (suc m) n)

row_inj : (i j : ℕ) → row i ≡ row j → i ≡ j
row_inj i j e = ap index_of e

column_inj : (i j : ℕ) → column i ≡ column j → i ≡ j
column_inj i j e = ap index_of e

pub lines_full : (w h : ℕ) → Lines w h (full_stack w h)
unfolding full_stack
lines_full w h = record {
  on = full_stack_on w h;
  once =
      once_onto (once_sorted w h (once_append (once_map column column_inj 0 w) (once_map row row_inj 0 h) apart)) no_lines
      (λ l u v. Memᴰ.not-nil v);
}
  where
    apart : Disjoint (map column (up_from 0 w)) (map row (up_from 0 h))
    apart l u v =
        let a = map-mem column (up_from 0 w) u in
        let b = map-mem row (up_from 0 h) v in other_way a.0 b.0 (sym b.2 ∙ a.2)

-- and a full run on the largest board needs all of it
pub lines_need : length (full_stack 64 64) ≡ stack_size
lines_need = length-full_stack 64 64
