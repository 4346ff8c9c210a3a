-- The loops that push: the crossing lines of the changed indexes are dropped, then put on top from the highest index to the lowest.
use mathlib.Core.Path.{◌≡◌, refl, sym, ap, ap₂, ◌∙◌}
use mathlib.Core.Bool.{Bool, true, false, cond, not, ◌||◌}
use mathlib.Core.Logic.{◌≢◌}
use mathlib.Core.List.Memᴰ
use mathlib.Core.List.{List, [], ◌∷◌, ◌++◌, map, Memᴰ}
use Prim.Native.Nat.{ℕ, zero, suc, ◌+◌, ◌-◌, ◌≤◌, ◌<◌}
use native.Mathlib.Nat.{not-suc-le-zero, le_of_suc-le-suc}
use native.Mathlib.Omega.{arith}
use borrow.Author.Tests.{eq-eqb, ne_eqb, eqb-true}
use lib.Dec.{eqb}
use lib.ListN.{length, get_or, set, drop, length-set, length-append, length-map}
use lib.Seq.{drop-cons, get_or-set_other}
use Rattle.rules.specs.declared.LinePosition.{LinePosition}
use Rattle.rules.specs.declared.LinePosition.TheVariants.{Row, Column}
use Rattle.rules.specs.Board.{cross}
use Rattle.rules.specs.Run.{same_line_of, remove, push_all, changed}
use Rattle.rules.proofs.Stacks.{remove_past, changed_in}
use Rattle.stack.specs.declared.Stack.{Stack}
use Rattle.stack.specs.Stack.{line_of_code, stack_of, lines_on, Kept, Pushable}
use Rattle.stack.specs.Steps.{Comparable, crosses, without}
use Rattle.stack.proofs.Coded.{same_code, code_row, code_column, stack_put}
use Rattle.stack.proofs.Piling.{count_on}

-- ---- pushing them one by one is dropping them all, and then putting them on top

without_none : (l : LinePosition) (st : List LinePosition) → without l [] st ≡ st
without_none l [] = refl
without_none l (m ∷ st) = ap (λ (t : List LinePosition). m ∷ t) (without_none l st)

remove_without : (l : LinePosition) (j : ℕ) (js : List ℕ) (st : List LinePosition) → remove (cross l j) (without l js st) ≡ without l (j ∷ js) st
remove_without l j js [] = refl
remove_without l j js (m ∷ st) = go (same_line_of (cross l j) m) refl (crosses l js m) (remove_without l j js st)
  where
    go : (s : Bool) → same_line_of (cross l j) m ≡ s → (t : Bool) → remove (cross l j) (without l js st) ≡ without l (j ∷ js) st
        → remove (cross l j) (cond t (without l js st) (m ∷ without l js st)) ≡ cond (s || t) (without l (j ∷ js) st) (m ∷ without l (j ∷ js) st)
    go true e true up = up
    go true e false up = rw e up
    go false e true up = up
    go false e false up = rw e (ap (λ (t : List LinePosition). m ∷ t) up)

-- the lines that the indexes push, and below them the others
abbrev PushedOn : (l : LinePosition) (js : List ℕ) (st : List LinePosition) → Type 0
PushedOn l js st = push_all l js st ≡ map (cross l) js ++ without l js st

apart_one : (l : LinePosition) (j : ℕ) (js : List ℕ) (st : List LinePosition) → (Memᴰ j js → ⊥) → PushedOn l js st → PushedOn l (j ∷ js) st
apart_one l j js st d up =
    ap (λ (t : List LinePosition). cross l j ∷ t)
    (ap (remove (cross l j)) up ∙ remove_past l j js (without l js st) d
    ∙ ap (λ (t : List LinePosition). map (cross l) js ++ t) (remove_without l j js st))

apart : (l : LinePosition) (j : ℕ) (c m : List ℕ) (st : List LinePosition) → PushedOn l (changed j c m) st
apart l j [] m st = sym (without_none l st)
apart l j (a ∷ c) [] st = sym (without_none l st)
apart l j (a ∷ c) (b ∷ m) st = go (eqb a b) (apart l (suc j) c m st)
  where
    go : (t : Bool) → PushedOn l (changed (suc j) c m) st → PushedOn l (cond t (changed (suc j) c m) (j ∷ changed (suc j) c m)) st
    go true up = up
    go false up = apart_one l j (changed (suc j) c m) st (λ u. omega (arith, changed_in (suc j) j c m u)) up

-- ---- which codes are dropped

code_one : (a b : ℕ) → line_of_code a ≡ line_of_code b → a ≡ b
code_one a b e =
    eqb-true a b (sym (same_code a b) ∙ ap (λ (x : LinePosition). same_line_of x (line_of_code b)) e ∙ same_code b b ∙ eq-eqb b b refl)

-- the crossing lines have the codes from that of index 0 on
code_cross : (l : LinePosition) (f j : ℕ) → line_of_code f ≡ cross l 0 → j < 64 → line_of_code (f + j) ≡ cross l j
code_cross (Row y) f j e h = let q : f + j ≡ j = omega (arith, code_one f 0 e) in ap line_of_code q ∙ code_column j h
code_cross (Column x) f j e h = let q : f + j ≡ j + 64 = omega (arith, code_one f 64 e) in ap line_of_code q ∙ code_row j

module _ (l : LinePosition) (f : ℕ) (e : line_of_code f ≡ cross l 0) where
  test_cross : (j x : ℕ) → j < 64 → same_line_of (cross l j) (line_of_code x) ≡ eqb (f + j) x
  test_cross j x h = ap (λ (m : LinePosition). same_line_of m (line_of_code x)) (sym (code_cross l f j e h)) ∙ same_code (f + j) x

  none_crosses : (js : List ℕ) (x : ℕ) → ((j : ℕ) → Memᴰ j js → (j < 64) × (f + j ≢ x)) → crosses l js (line_of_code x) ≡ false
  none_crosses [] x h = refl
  none_crosses (j ∷ js) x h =
      let q = h j (Memᴰ.head refl) in
      rw (test_cross j x q.0, ne_eqb (f + j) x q.1) (none_crosses js x (λ i u. h i (Memᴰ.tail u)))

  one_crosses : (x j i : ℕ) (c m : List ℕ) → x ≡ f + (j + i) → length c ≡ length m → j + length c ≤ 64 → i < length c
      → crosses l (changed j c m) (line_of_code x) ≡ not (eqb (get_or c i 0) (get_or m i 0))
  one_crosses x j i [] m d p h q = absurd (not-suc-le-zero q)
  one_crosses x j i (a ∷ c) [] d p h q = absurd (omega arith)
  one_crosses x j zero (a ∷ c) (b ∷ m) d p h q = go (eqb a b)
    where
      go : (t : Bool) → crosses l (cond t (changed (suc j) c m) (j ∷ changed (suc j) c m)) (line_of_code x) ≡ not t
      go true = none_crosses (changed (suc j) c m) x (λ k u. let r = changed_in (suc j) k c m u in (omega arith, λ z. omega arith))
      go false = rw (test_cross j x (omega arith), eq-eqb (f + j) x (omega arith))
  one_crosses x j (suc i) (a ∷ c) (b ∷ m) d p h q =
      go (eqb a b) (one_crosses x (suc j) i c m (omega arith) (omega arith) (omega arith) (le_of_suc-le-suc q))
    where
      go : (t : Bool) → crosses l (changed (suc j) c m) (line_of_code x) ≡ not (eqb (get_or c i 0) (get_or m i 0))
          → crosses l (cond t (changed (suc j) c m) (j ∷ changed (suc j) c m)) (line_of_code x) ≡ not (eqb (get_or c i 0) (get_or m i 0))
      go true up = up
      go false up = rw (test_cross j x (omega arith), ne_eqb (f + j) x (omega arith)) up

  module _ {before answer : List ℕ} (p : Comparable before answer) (x : ℕ) where
    pub crosses_not : ((j : ℕ) → j < length answer → f + j ≢ x) → crosses l (changed 0 before answer) (line_of_code x) ≡ false
    crosses_not d =
        none_crosses (changed 0 before answer) x
        (λ j u. let r = changed_in 0 j before answer u in let q : j < length answer = omega (arith, p.long) in (omega (arith, p.short), d j q))

    pub crosses_at : f ≤ x → x - f < length answer
        → crosses l (changed 0 before answer) (line_of_code x) ≡ not (eqb (get_or before (x - f) 0) (get_or answer (x - f) 0))
    crosses_at h q =
        one_crosses x 0 (x - f) before answer (omega arith) p.long (omega (arith, p.long, p.short)) (omega (arith, p.long))

-- ---- they are dropped, and the others move down

-- of the first i places all but the lines that cross l at the indexes js have moved down to the first k
pub record Packing (l : LinePosition) (js s₀ s : List ℕ) (i k : ℕ) : Type 0 where
  pub low : k ≤ i
  pub long : length s ≡ length s₀
  pub packed : stack_of s k ≡ without l js (stack_of s₀ i)
  pub fresh : (t : ℕ) → i ≤ t → get_or s t 0 ≡ get_or s₀ t 0

module _ {l : LinePosition} {js s₀ s : List ℕ} {i k : ℕ} (v : Packing l js s₀ s i k) where
  -- the next line on the stack is still as it was
  next : {b : Bool} → crosses l js (line_of_code (get_or s i 0)) ≡ b → crosses l js (line_of_code (get_or s₀ i 0)) ≡ b
  next e = ap (λ (x : ℕ). crosses l js (line_of_code x)) (sym (v.fresh i (omega arith))) ∙ e

  pub pack_drop : crosses l js (line_of_code (get_or s i 0)) ≡ true → Packing l js s₀ s (suc i) k
  pack_drop e = record {
    low = omega (arith, v.low);
    long = v.long;
    packed = rw (next e) v.packed;
    fresh = λ t h. v.fresh t (omega arith);
  }

  pub pack_keep : i < length s₀ → crosses l js (line_of_code (get_or s i 0)) ≡ false → Packing l js s₀ (set s k (get_or s i 0)) (suc i) (suc k)
  pack_keep h e = record {
    low = omega (arith, v.low);
    long = length-set s k (get_or s i 0) ∙ v.long;
    packed =
        rw (next e)
        (stack_put s k (get_or s i 0) (omega (arith, v.low, v.long))
        ∙ ap₂ (λ (x : ℕ) (st : List LinePosition). line_of_code x ∷ st) (v.fresh i (omega arith)) v.packed);
    fresh = λ t p. get_or-set_other s k t (get_or s i 0) 0 (omega (arith, v.low)) ∙ v.fresh t (omega arith);
  }

-- ---- they are put on top

module _ {before answer : List ℕ} (p : Comparable before answer) where
  -- the changed indexes from j on
  abbrev to_push : ℕ → List ℕ
  to_push j = changed j (drop j before) (drop j answer)

  left_cons : (j : ℕ) → j < length answer
      → to_push j ≡ cond (eqb (get_or before j 0) (get_or answer j 0)) (to_push (suc j)) (j ∷ to_push (suc j))
  left_cons j h = rw (drop-cons before j 0 (omega (arith, p.long)), drop-cons answer j 0 h)

  left_more : (j : ℕ) → j < length answer → get_or before j 0 ≢ get_or answer j 0 → to_push j ≡ j ∷ to_push (suc j)
  left_more j h q = left_cons j h ∙ rw (ne_eqb (get_or before j 0) (get_or answer j 0) q)

  -- they are no more than all of them
  left_fewer : (j : ℕ) → j ≤ length answer → length (to_push j) ≤ length (changed 0 before answer)
  left_fewer zero h = omega arith
  left_fewer (suc j) h = go (eqb (get_or before j 0) (get_or answer j 0)) (left_cons j h) (left_fewer j (omega arith))
    where
      go : (t : Bool) → to_push j ≡ cond t (to_push (suc j)) (j ∷ to_push (suc j)) → length (to_push j) ≤ length (changed 0 before answer)
          → length (to_push (suc j)) ≤ length (changed 0 before answer)
      go true e up = omega (arith, ap length e)
      go false e up = omega (arith, ap length e)

-- the crossing lines of the changed indexes from j on are on top
pub record Topping (before answer : List ℕ) (s₀ : Stack) (l : LinePosition) (s : Stack) (j : ℕ) : Type 0 where
  pub upto : j ≤ length answer
  pub kept : Kept s₀ s
  pub is : lines_on s ≡ map (cross l) (changed j (drop j before) (drop j answer)) ++ lines_on s₀

module _ {before answer : List ℕ} (p : Comparable before answer) where
  module _ {s₀ s : Stack} {j : ℕ} {l : LinePosition} (v : Topping before answer s₀ l s j) (more : 0 < j) where
    below : lines_on s ≡ map (cross l) (to_push p (suc (j - 1))) ++ lines_on s₀
    below = let e : j ≡ suc (j - 1) = omega arith in v.is ∙ ap (λ (i : ℕ). map (cross l) (to_push p i) ++ lines_on s₀) e

    -- a change at the index below: its crossing line is put on top
    module _ (d : get_or before (j - 1) 0 ≢ get_or answer (j - 1) 0) where
      pub top_room : length (changed 0 before answer) + s₀.count ≤ length s₀.codes.now → s.count < length s.codes.now
      top_room room = omega (
        arith,
        room,
        v.kept.long,
        v.upto,
        count_on s,
        count_on s₀,
        ap length below,
        length-append (map (cross l) (to_push p (suc (j - 1)))) (lines_on s₀),
        length-map (to_push p (suc (j - 1))) (cross l),
        ap length (left_more p (j - 1) (omega (arith, v.upto)) d),
        left_fewer p (j - 1) (omega (arith, v.upto)),
      )

-- ---- both

module _ {before answer : List ℕ} {s : Stack} {l : LinePosition} (p : Pushable before answer l s) where
  pub pushed_pair : Comparable before answer
  pushed_pair = record { long = p.long; short = p.short }

  pub pushed_count : s.count ≤ length s.codes.now
  pushed_count = omega (arith, p.space [] (λ j u. absurd (Memᴰ.not-nil u)), count_on s)

  -- what was kept, and the crossing lines on top of it
  pub pushed : {rest st : List LinePosition} → rest ≡ without l (changed 0 before answer) (lines_on s)
      → st ≡ map (cross l) (changed 0 before answer) ++ rest → st ≡ push_all l (changed 0 before answer) (lines_on s)
  pushed e f = f ∙ ap (λ (t : List LinePosition). map (cross l) (changed 0 before answer) ++ t) e ∙ sym (apart l 0 before answer (lines_on s))

  pub pushed_room : (s' : Stack) → Kept s s' → lines_on s' ≡ without l (changed 0 before answer) (lines_on s)
      → length (changed 0 before answer) + s'.count ≤ length s'.codes.now
  pushed_room s' k e = omega (
    arith,
    ap length (pushed e refl),
    length-append (map (cross l) (changed 0 before answer)) (lines_on s'),
    length-map (changed 0 before answer) (cross l),
    count_on s',
    k.long,
    p.space (changed 0 before answer) (λ j u. omega (arith, p.long, changed_in 0 j before answer u)),
  )
