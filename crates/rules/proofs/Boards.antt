-- The geometry of a board: lines, places, what storing a line changes, and a row as a part of the list.
use mathlib.Core.Path.{◌≡◌, refl, sym, ap, ◌∙◌}
use mathlib.Core.Logic.{◌⊎◌, inl, inr, ◌≢◌}
use mathlib.Core.List.{List, [], ◌∷◌}
use Prim.Native.Nat.{ℕ, zero, suc, ◌+◌, ◌*◌, ◌/◌, ◌%◌, ◌≤◌, ◌<◌}
use native.Mathlib.Nat.{add-zero, zero-add, not-suc-le-zero, le_of_suc-le-suc, mul-le-mul_right}
use native.Mathlib.Decide.{ℕ_discrete}
use native.Mathlib.Omega.{arith}
use lib.Arith.{digits_div, digits_mod, digits_lt}
use lib.ListN.{length, get_or, set, length-set, take, drop, length-take, length-drop}
use lib.Seq.{get_or-set_same, get_or-set_other, ext_get_or, get_or-take, get_or-drop}
use Rattle.rules.specs.Colour.{Has}
use Rattle.rules.specs.Answer.{Within}
use Rattle.rules.specs.declared.LinePosition.{LinePosition}
use Rattle.rules.specs.Board.{row, len, On, place, tabulate, line_of, put, store}
use Rattle.rules.proofs.Colours.{has_inside}
use Rattle.rules.specs.declared.LinePosition.TheVariants.{Row, Column}

-- ---- lists

pub length_tabulate : (n : ℕ) (f : ℕ → ℕ) → length (tabulate n f) ≡ n
length_tabulate zero f = refl
length_tabulate (suc n) f = ap suc (length_tabulate n (λ i. f (suc i)))

pub get_d_tabulate : (n : ℕ) (f : ℕ → ℕ) (i d : ℕ) → i < n → get_or (tabulate n f) i d ≡ f i
get_d_tabulate zero f i d h = absurd (not-suc-le-zero h)
get_d_tabulate (suc n) f zero d h = refl
get_d_tabulate (suc n) f (suc i) d h = get_d_tabulate n (λ j. f (suc j)) i d (le_of_suc-le-suc h)

pub length_put : (at : ℕ → ℕ) (j : ℕ) (m b : List ℕ) → length (put at j m b) ≡ length b
length_put at j [] b = refl
length_put at j (a ∷ m) b = length_put at (suc j) m (set b (at j) a) ∙ length-set b (at j) a

pub put_other : (at : ℕ → ℕ) (j : ℕ) (m b : List ℕ) (c : ℕ) → ((i : ℕ) → j ≤ i → i < j + length m → c ≢ at i) → get_or (put at j m b) c 0 ≡ get_or b c 0
put_other at j [] b c h = refl
put_other at j (a ∷ m) b c h =
    put_other at (suc j) m (set b (at j) a) c (λ i p q. h i (omega arith) (omega arith))
    ∙ get_or-set_other b (at j) c a 0 (h j (omega arith) (omega arith))

-- where no two indexes have one place, each place gets its value
pub put_at : (at : ℕ → ℕ) (j : ℕ) (m b : List ℕ) (i : ℕ)
    → ((i i' : ℕ) → i < j + length m → i' < j + length m → at i ≡ at i' → i ≡ i')
    → i < length m → at (j + i) < length b → get_or (put at j m b) (at (j + i)) 0 ≡ get_or m i 0
put_at at j [] b i inj h r = absurd (not-suc-le-zero h)
put_at at j (a ∷ m) b zero inj h r =
    let r' : at j < length b = rw add-zero at r in
    rw add-zero
    (put_other at (suc j) m (set b (at j) a) (at j) (λ i p q e. omega (arith, inj j i (omega arith) (omega arith) e))
    ∙ get_or-set_same b (at j) a 0 r')
put_at at j (a ∷ m) b (suc i) inj h r =
    let e : j + suc i ≡ suc j + i = omega arith in
    rw e
    (put_at at (suc j) m (set b (at j) a) i (λ u v p q. inj u v (omega arith) (omega arith)) (le_of_suc-le-suc h)
    (rw length-set (rw e at r)))

-- is the cell c one of the n places?
pub find : (at : ℕ → ℕ) (n c : ℕ) → ((i : ℕ) × (i < n) × (c ≡ at i)) ⊎ ((i : ℕ) → i < n → c ≢ at i)
find at zero c = inr (λ i h. absurd (not-suc-le-zero h))
find at (suc n) c = go (ℕ_discrete c (at n)) (find at n c)
  where
    go : Dec (c ≡ at n) → ((i : ℕ) × (i < n) × (c ≡ at i)) ⊎ ((i : ℕ) → i < n → c ≢ at i)
        → ((i : ℕ) × (i < suc n) × (c ≡ at i)) ⊎ ((i : ℕ) → i < suc n → c ≢ at i)
    go (yes e) r = inl (n, omega arith, e)
    go (no f) (inl (i, p, e)) = inl (i, omega arith, e)
    go (no f) (inr g) = inr (λ i p. last i p (ℕ_discrete i n))
      where
        last : (i : ℕ) → i < suc n → Dec (i ≡ n) → c ≢ at i
        last i p (yes e) u = f (u ∙ ap at e)
        last i p (no d) u = g i (omega arith) u

-- ---- the geometry of a board

module _ (w h : ℕ) where
  -- a cell lies at one column and one row
  pub at_one : (x y x' y' : ℕ) → x < w → x' < w → y * w + x ≡ y' * w + x' → (x ≡ x') × (y ≡ y')
  at_one x y x' y' p q e =
      (sym (digits_mod y p) ∙ ap (λ (n : ℕ). n % w) e ∙ digits_mod y' q, sym (digits_div y p) ∙ ap (λ (n : ℕ). n / w) e ∙ digits_div y' q)

  pub place_lt : (l : LinePosition) (j : ℕ) → On w h l → j < len w h l → place w l j < h * w
  place_lt (Row y) j o p = digits_lt o p
  place_lt (Column x) j o p = digits_lt p o

  pub place_inj : (l : LinePosition) (i j : ℕ) → On w h l → i < len w h l → j < len w h l → place w l i ≡ place w l j → i ≡ j
  place_inj (Row y) i j o p q e = (at_one i y.0 j y.0 p q e).0
  place_inj (Column x) i j o p q e = (at_one x.0 i x.0 j o o e).1

  pub length_line : (b : List ℕ) (l : LinePosition) → length (line_of w h b l) ≡ len w h l
  unfolding line_of
  length_line b l = length_tabulate (len w h l) (λ j. get_or b (place w l j) 0)

  pub get_or_line : (b : List ℕ) (l : LinePosition) (i : ℕ) → i < len w h l → get_or (line_of w h b l) i 0 ≡ get_or b (place w l i) 0
  unfolding line_of
  get_or_line b l i p = get_d_tabulate (len w h l) (λ j. get_or b (place w l j) 0) i 0 p

  -- beyond a line's end there is nothing
  pub line_end : (b : List ℕ) (l : LinePosition) (i k : ℕ) → Has (get_or (line_of w h b l) i 0) k → i < len w h l
  line_end b l i k g = omega (arith, has_inside (line_of w h b l) i k g, length_line b l)

  pub line_within : {s b : List ℕ} (l : LinePosition) → Within s b → Within (line_of w h s l) (line_of w h b l)
  line_within {s} {b} l u =
      record {
        long = length_line s l ∙ sym (length_line b l);
        each = λ i k g.
            let p = line_end s l i k g in
            rw (get_or_line b l i p) (u.each (place w l i) k (rw (get_or_line s l i p) at g));
      }

  pub length_store : (l : LinePosition) (m b : List ℕ) → length (store w l m b) ≡ length b
  unfolding store
  length_store l m b = length_put (place w l) 0 m b

  module _ (l : LinePosition) (o : On w h l) (m b : List ℕ) (long : length m ≡ len w h l) (size : length b ≡ h * w) where
    pub store_at : (i : ℕ) → i < len w h l → get_or (store w l m b) (place w l i) 0 ≡ get_or m i 0
    unfolding store
    store_at i p =
        rw zero-add at
        (put_at (place w l) 0 m b i (λ u v p q. place_inj l u v o (omega arith) (omega arith)) (omega arith) (rw (zero-add, size) (place_lt l i o p)))

    pub store_other : (c : ℕ) → ((i : ℕ) → i < len w h l → c ≢ place w l i) → get_or (store w l m b) c 0 ≡ get_or b c 0
    unfolding store
    store_other c f = put_other (place w l) 0 m b c (λ i p q. f i (omega arith))

    pub line_store : line_of w h (store w l m b) l ≡ m
    line_store =
        ext_get_or 0 (line_of w h (store w l m b) l) m (length_line (store w l m b) l ∙ sym long)
        (λ i p. let q : i < len w h l = omega (arith, length_line (store w l m b) l) in get_or_line (store w l m b) l i q ∙ store_at i q)

-- ---- a row is a part of the board's list

module _ (w h : ℕ) (b : List ℕ) (size : length b ≡ h * w) (y : ℕ) (o : y < h) where
  -- the row ends within the board
  pub row_fits : y * w + w ≤ length b
  row_fits = omega (arith, mul-le-mul_right w o)

  pub row_part : line_of w h b (row y) ≡ take w (drop (y * w) b)
  row_part =
      let e = row_fits in
      let n : length (take w (drop (y * w) b)) ≡ w = simp (length-take, length-drop) (omega arith) in
      ext_get_or 0 (line_of w h b (row y)) (take w (drop (y * w) b)) (length_line w h b (row y) ∙ sym n)
      (λ i p. at i (omega (arith, length_line w h b (row y))))
    where
      at : (i : ℕ) → i < w → get_or (line_of w h b (row y)) i 0 ≡ get_or (take w (drop (y * w) b)) i 0
      at i q = rw (get_or_line w h b (row y) i q, get_or-take, get_or-drop)
