-- The stack of lines, the changed indexes, and the order in which a full run begins.
use mathlib.Core.Path.{◌≡◌, refl, sym, ap, ap₂, ◌∙◌, subst}
use mathlib.Core.Bool.{Bool, true, false, cond}
use mathlib.Core.Logic.{◌⊎◌, inl, inr, ⊎_elim, ◌≢◌}
use mathlib.Core.List.Memᴰ
use mathlib.Core.List.{List, [], ◌∷◌, ◌++◌, map, Memᴰ}
use Prim.Native.Nat.{ℕ, zero, suc, ◌+◌, ◌≤◌, ◌<◌}
use native.Mathlib.Nat.{add-zero, zero-add, not-suc-le-zero, le_of_suc-le-suc}
use native.Mathlib.Omega.{arith}
use borrow.Author.Tests.{ne_eqb}
use lib.Dec.{leb, eqb}
use lib.ListN.{length, get_or, length-append, length-reverse, length-map}
use Rattle.rules.specs.declared.LinePosition.{LinePosition}
use Rattle.rules.specs.Board.{row, column, On, cross}
use Rattle.rules.specs.Run.{same_line_of, remove, push, changed, push_all, up_from, distance, insert, sorted, full_stack, all_lines}
use Rattle.rules.proofs.Lists.{mem-map, map-mem, mem-reverse, reverse-mem}
use Rattle.rules.specs.declared.LinePosition.TheVariants.{Row, Column}
use Rattle.rules.proofs.Tests.{Compared, nat_eq_cases}

-- the number of a row or of a column
abbrev pub index_of : LinePosition → ℕ
index_of (Row y) = y.0
index_of (Column x) = x.0

pub line_cases : (l m : LinePosition) → ((l ≡ m) × (same_line_of l m ≡ true)) ⊎ ((l ≢ m) × (same_line_of l m ≡ false))
line_cases (Row y) (Row z) = ⊎_elim (λ p. inl (ap row p.0, p.1)) (λ p. inr (λ e. p.0 (ap index_of e), p.1)) (nat_eq_cases y.0 z.0)
line_cases (Row y) (Column x) = inr (λ e. let z : ◌≡◌ {A = ℕ} 0 1 = cc in omega arith, refl)
line_cases (Column x) (Row y) = inr (λ e. let z : ◌≡◌ {A = ℕ} 0 1 = cc in omega arith, refl)
line_cases (Column x) (Column z) = ⊎_elim (λ p. inl (ap column p.0, p.1)) (λ p. inr (λ e. p.0 (ap index_of e), p.1)) (nat_eq_cases x.0 z.0)

-- ---- the stack

pub remove_mem : {k : LinePosition} (l : LinePosition) (st : List LinePosition) → Memᴰ k (remove l st) → Memᴰ k st
remove_mem l [] m = m
remove_mem {k} l (x ∷ st) m = go (same_line_of l x) m (remove_mem l st)
  where
    go : (b : Bool) → Memᴰ k (cond b (remove l st) (x ∷ remove l st)) → (Memᴰ k (remove l st) → Memᴰ k st) → Memᴰ k (x ∷ st)
    go true n up = Memᴰ.tail (up n)
    go false n up = ⊎_elim Memᴰ.head (λ r. Memᴰ.tail (up r)) (Memᴰ.cases_cons n)

pub mem_remove : {k : LinePosition} (l : LinePosition) (st : List LinePosition) → k ≢ l → Memᴰ k st → Memᴰ k (remove l st)
mem_remove l [] d m = m
mem_remove {k} l (x ∷ st) d m = go (line_cases l x) (Memᴰ.cases_cons m) (mem_remove l st d)
  where
    go : ((l ≡ x) × (same_line_of l x ≡ true)) ⊎ ((l ≢ x) × (same_line_of l x ≡ false)) → (k ≡ x) ⊎ Memᴰ k st
        → (Memᴰ k st → Memᴰ k (remove l st))
        → Memᴰ k (cond (same_line_of l x) (remove l st) (x ∷ remove l st))
    go (inl p) (inl e) up = absurd (d (e ∙ sym p.0))
    go (inl p) (inr n) up = rw p.1 (up n)
    go (inr p) (inl e) up = rw p.1 (Memᴰ.head e)
    go (inr p) (inr n) up = rw p.1 (Memᴰ.tail (up n))

pub length_remove : (l : LinePosition) (st : List LinePosition) → length (remove l st) ≤ length st
length_remove l [] = omega arith
length_remove l (x ∷ st) = go (same_line_of l x) (length_remove l st)
  where
    go : (b : Bool) → length (remove l st) ≤ length st → length (cond b (remove l st) (x ∷ remove l st)) ≤ suc (length st)
    go true h = omega arith
    go false h = omega arith

same_cross : (l : LinePosition) (i j : ℕ) → same_line_of (cross l i) (cross l j) ≡ eqb i j
same_cross (Row y) i j = refl
same_cross (Column x) i j = refl

-- a crossing line is removed below those of other indexes
pub remove_past : (l : LinePosition) (j : ℕ) (js : List ℕ) (st : List LinePosition) → (Memᴰ j js → ⊥)
    → remove (cross l j) (map (cross l) js ++ st) ≡ map (cross l) js ++ remove (cross l j) st
remove_past l j [] st d = refl
remove_past l j (i ∷ js) st d =
    rw (same_cross l j i, ne_eqb j i (λ e. d (Memᴰ.head e)))
    (ap (λ (t : List LinePosition). cross l i ∷ t) (remove_past l j js st (λ u. d (Memᴰ.tail u))))

pub mem_push : {k : LinePosition} (l : LinePosition) {st : List LinePosition} → Memᴰ k st → Memᴰ k (push l st)
mem_push {k} l {st} m = go (line_cases k l)
  where
    go : ((k ≡ l) × (same_line_of k l ≡ true)) ⊎ ((k ≢ l) × (same_line_of k l ≡ false)) → Memᴰ k (l ∷ remove l st)
    go (inl p) = Memᴰ.head p.0
    go (inr p) = Memᴰ.tail (mem_remove l st p.0 m)

pub mem-push_all : {k : LinePosition} (l : LinePosition) (js : List ℕ) {st : List LinePosition} → Memᴰ k st → Memᴰ k (push_all l js st)
mem-push_all l [] m = m
mem-push_all l (j ∷ js) m = mem_push (cross l j) (mem-push_all l js m)

pub cross_push_all : (l : LinePosition) {j : ℕ} (js : List ℕ) (st : List LinePosition) → Memᴰ j js → Memᴰ (cross l j) (push_all l js st)
cross_push_all l [] st m = absurd (Memᴰ.not-nil m)
cross_push_all l {j} (i ∷ js) st m = go (cross_push_all l js st) (Memᴰ.cases_cons m)
  where
    go : (Memᴰ j js → Memᴰ (cross l j) (push_all l js st)) → (j ≡ i) ⊎ Memᴰ j js → Memᴰ (cross l j) (push_all l (i ∷ js) st)
    go up (inl e) = Memᴰ.head (ap (cross l) e)
    go up (inr n) = mem_push (cross l i) (up n)

pub push_all-mem : {k : LinePosition} (l : LinePosition) (js : List ℕ) (st : List LinePosition) → Memᴰ k (push_all l js st)
    → ((j : ℕ) × Memᴰ j js × (k ≡ cross l j)) ⊎ Memᴰ k st
push_all-mem l [] st m = inr m
push_all-mem {k} l (j ∷ js) st m = go (push_all-mem l js st) (Memᴰ.cases_cons m)
  where
    up : ((i : ℕ) × Memᴰ i js × (k ≡ cross l i)) ⊎ Memᴰ k st → ((i : ℕ) × Memᴰ i (j ∷ js) × (k ≡ cross l i)) ⊎ Memᴰ k st
    up (inl (i, n, e)) = inl (i, Memᴰ.tail n, e)
    up (inr n) = inr n

    go : (Memᴰ k (push_all l js st) → ((i : ℕ) × Memᴰ i js × (k ≡ cross l i)) ⊎ Memᴰ k st)
        → (k ≡ cross l j) ⊎ Memᴰ k (remove (cross l j) (push_all l js st)) → ((i : ℕ) × Memᴰ i (j ∷ js) × (k ≡ cross l i)) ⊎ Memᴰ k st
    go f (inl e) = inl (j, Memᴰ.head refl, e)
    go f (inr n) = up (f (remove_mem (cross l j) (push_all l js st) n))

pub length-push_all : (l : LinePosition) (js : List ℕ) (st : List LinePosition) → length (push_all l js st) ≤ length js + length st
length-push_all l [] st = omega arith
length-push_all l (j ∷ js) st = omega (arith, length-push_all l js st, length_remove (cross l j) (push_all l js st))

-- is the line on the stack?
pub on_stack : (k : LinePosition) (st : List LinePosition) → Memᴰ k st ⊎ (Memᴰ k st → ⊥)
on_stack k [] = inr (λ m. Memᴰ.not-nil m)
on_stack k (x ∷ st) = go (line_cases k x) (on_stack k st)
  where
    go : ((k ≡ x) × (same_line_of k x ≡ true)) ⊎ ((k ≢ x) × (same_line_of k x ≡ false)) → Memᴰ k st ⊎ (Memᴰ k st → ⊥)
        → Memᴰ k (x ∷ st) ⊎ (Memᴰ k (x ∷ st) → ⊥)
    go (inl p) r = inl (Memᴰ.head p.0)
    go (inr p) (inl m) = inl (Memᴰ.tail m)
    go (inr p) (inr f) = inr (λ m. ⊎_elim p.0 f (Memᴰ.cases_cons m))

-- ---- the changed indexes

pub changed_in : (j i : ℕ) (c m : List ℕ) → Memᴰ i (changed j c m) → (j ≤ i) × (i < j + length c)
changed_in j i [] m n = absurd (Memᴰ.not-nil n)
changed_in j i (a ∷ c) [] n = absurd (Memᴰ.not-nil n)
changed_in j i (a ∷ c) (b ∷ m) n = go (eqb a b) n (changed_in (suc j) i c m)
  where
    go : (t : Bool) → Memᴰ i (cond t (changed (suc j) c m) (j ∷ changed (suc j) c m))
        → (Memᴰ i (changed (suc j) c m) → (suc j ≤ i) × (i < suc j + length c))
        → (j ≤ i) × (i < j + suc (length c))
    go true x up = let r = up x in omega arith
    go false x up = ⊎_elim (λ e. omega arith) (λ y. let r = up y in omega arith) (Memᴰ.cases_cons x)

pub changed_not : (j i : ℕ) (c m : List ℕ) → length m ≡ length c → i < length c → (Memᴰ (j + i) (changed j c m) → ⊥) → get_or m i 0 ≡ get_or c i 0
changed_not j i [] m e p f = absurd (not-suc-le-zero p)
changed_not j i (a ∷ c) [] e p f = omega arith
changed_not j zero (a ∷ c) (b ∷ m) e p f = go (nat_eq_cases a b)
  where
    go : Compared a b → b ≡ a
    go (inl q) = sym q.0
    go (inr q) = absurd (f (rw q.1 (Memᴰ.head (add-zero j))))
changed_not j (suc i) (a ∷ c) (b ∷ m) e p f =
    changed_not (suc j) i c m (omega arith) (le_of_suc-le-suc p) (λ n. f (lift (eqb a b) (Memᴰ.cast (omega arith) n)))
  where
    lift : (t : Bool) → Memᴰ (j + suc i) (changed (suc j) c m) → Memᴰ (j + suc i) (cond t (changed (suc j) c m) (j ∷ changed (suc j) c m))
    lift true n = n
    lift false n = Memᴰ.tail n

-- ---- the full stack has every line, once

pub length_up_from : (m n : ℕ) → length (up_from m n) ≡ n
length_up_from m zero = refl
length_up_from m (suc n) = ap suc (length_up_from (suc m) n)

pub up_from_mem : (m n i : ℕ) → Memᴰ i (up_from m n) → i < m + n
up_from_mem m zero i u = absurd (Memᴰ.not-nil u)
up_from_mem m (suc n) i u = ⊎_elim (λ e. omega arith) (λ v. omega (arith, up_from_mem (suc m) n i v)) (Memᴰ.cases_cons u)

mem_up_from : (m n i : ℕ) → i < n → Memᴰ (m + i) (up_from m n)
mem_up_from m zero i p = absurd (not-suc-le-zero p)
mem_up_from m (suc n) zero p = Memᴰ.head (add-zero m)
mem_up_from m (suc n) (suc i) p = Memᴰ.tail (Memᴰ.cast (omega arith) (mem_up_from (suc m) n i (le_of_suc-le-suc p)))

module _ (w h : ℕ) where
  pub insert-mem : {k : LinePosition} (l : LinePosition) (st : List LinePosition) → Memᴰ k (insert w h l st) → (k ≡ l) ⊎ Memᴰ k st
  insert-mem l [] n = Memᴰ.cases_cons n
  insert-mem {k} l (m ∷ st) n = go (leb (distance w h l) (distance w h m)) n (insert-mem l st)
    where
      go : (t : Bool) → Memᴰ k (cond t (l ∷ m ∷ st) (m ∷ insert w h l st)) → (Memᴰ k (insert w h l st) → (k ≡ l) ⊎ Memᴰ k st)
          → (k ≡ l) ⊎ Memᴰ k (m ∷ st)
      go true n up = Memᴰ.cases_cons n
      go false n up = ⊎_elim (λ e. inr (Memᴰ.head e)) (λ u. ⊎_elim (λ e. inl e) (λ v. inr (Memᴰ.tail v)) (up u)) (Memᴰ.cases_cons n)

  mem-insert : {k : LinePosition} (l : LinePosition) (st : List LinePosition) → (k ≡ l) ⊎ Memᴰ k st → Memᴰ k (insert w h l st)
  mem-insert l [] n = ⊎_elim Memᴰ.head Memᴰ.tail n
  mem-insert {k} l (m ∷ st) n = go (leb (distance w h l) (distance w h m)) n (mem-insert l st)
    where
      go : (t : Bool) → (k ≡ l) ⊎ Memᴰ k (m ∷ st) → ((k ≡ l) ⊎ Memᴰ k st → Memᴰ k (insert w h l st))
          → Memᴰ k (cond t (l ∷ m ∷ st) (m ∷ insert w h l st))
      go true n up = ⊎_elim Memᴰ.head Memᴰ.tail n
      go false (inl e) up = Memᴰ.tail (up (inl e))
      go false (inr n) up = ⊎_elim Memᴰ.head (λ u. Memᴰ.tail (up (inr u))) (Memᴰ.cases_cons n)

  pub sorted_mem : {k : LinePosition} (st : List LinePosition) → Memᴰ k (sorted w h st) → Memᴰ k st
  sorted_mem [] n = n
  sorted_mem (l ∷ st) n = ⊎_elim Memᴰ.head (λ u. Memᴰ.tail (sorted_mem st u)) (insert-mem l (sorted w h st) n)

  mem_sorted : {k : LinePosition} {st : List LinePosition} → Memᴰ k st → Memᴰ k (sorted w h st)
  mem_sorted (Memᴰ.head {x = l} {xs = st} e) = mem-insert l (sorted w h st) (inl e)
  mem_sorted (Memᴰ.tail {x = l} {xs = st} n) = mem-insert l (sorted w h st) (inr (mem_sorted n))

  length-insert : (l : LinePosition) (st : List LinePosition) → length (insert w h l st) ≡ suc (length st)
  length-insert l [] = refl
  length-insert l (m ∷ st) = go (leb (distance w h l) (distance w h m)) (length-insert l st)
    where
      go : (b : Bool) → length (insert w h l st) ≡ suc (length st) → length (cond b (l ∷ m ∷ st) (m ∷ insert w h l st)) ≡ suc (suc (length st))
      go true e = refl
      go false e = ap suc e

  pub length_sorted : (st : List LinePosition) → length (sorted w h st) ≡ length st
  length_sorted [] = refl
  length_sorted (l ∷ st) = length-insert l (sorted w h st) ∙ ap suc (length_sorted st)

  pub length-full_stack : length (full_stack w h) ≡ w + h
  unfolding full_stack
  length-full_stack =
      length-reverse (sorted w h (all_lines w h)) ∙ length_sorted (all_lines w h) ∙ length-append (map column (up_from 0 w)) (map row (up_from 0 h))
      ∙ ap₂ (λ (x y : ℕ). x + y) (length-map (up_from 0 w) column ∙ length_up_from 0 w) (length-map (up_from 0 h) row ∙ length_up_from 0 h)

  pub full_stack_on : (l : LinePosition) → Memᴰ l (full_stack w h) → On w h l
  unfolding full_stack
  full_stack_on l n = go (Memᴰ.append_cases (map column (up_from 0 w)) (sorted_mem (all_lines w h) (reverse-mem (sorted w h (all_lines w h)) n)))
    where
      go : Memᴰ l (map column (up_from 0 w)) ⊎ Memᴰ l (map row (up_from 0 h)) → On w h l
      go (inl u) = let r = map-mem column (up_from 0 w) u in subst (On w h) (sym r.2) (rw zero-add at (up_from_mem 0 w r.0 r.1))
      go (inr u) = let r = map-mem row (up_from 0 h) u in subst (On w h) (sym r.2) (rw zero-add at (up_from_mem 0 h r.0 r.1))

  pub on_full_stack : (l : LinePosition) → On w h l → Memᴰ l (full_stack w h)
  unfolding full_stack
  on_full_stack (Row y) o =
      mem-reverse
      (mem_sorted (Memᴰ.append_right (map column (up_from 0 w)) (mem-map row (Memᴰ.cast (sym (zero-add y.0)) (mem_up_from 0 h y.0 o)))))
  on_full_stack (Column x) o =
      mem-reverse
      (mem_sorted (Memᴰ.append_left (map row (up_from 0 h)) (mem-map column (Memᴰ.cast (sym (zero-add x.0)) (mem_up_from 0 w x.0 o)))))
