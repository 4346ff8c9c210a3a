-- The answer of a line, for any list of placements.
use mathlib.Core.Path.{◌≡◌, refl, sym, ap, ◌∙◌, subst}
use mathlib.Core.Bool.{Bool, true, false}
use mathlib.Core.Logic.{◌⊎◌, inl, inr, ⊎_elim, ◌↔◌}
use mathlib.Core.Option.{Option, none, some}
use mathlib.Core.List.Memᴰ
use mathlib.Core.List.{List, [], ◌∷◌, Memᴰ}
use Prim.Native.Nat.{ℕ, zero, suc, ◌<◌}
use native.Mathlib.Nat.{not-suc-le-zero, le_of_suc-le-suc}
use native.Mathlib.Omega.{arith}
use lib.Bits.{bit_or, or_zero_l, or_zero_r}
use lib.Dec.{T}
use lib.ListN.{length, get_or}
use lib.Seq.{ext_get_or}
use Rattle.rules.specs.Colour.{Has, Subset, Colour, can_take}
use Rattle.rules.specs.Answer.{agrees, join, count_in, answer, Fitting, Shown, Exact, Refused, Answers, Proper, Within}
use Rattle.rules.proofs.Colours.{subset_refl, subset_trans, subset_antisym, has_or, has_left, has_right, can_has, has_can, has_pow, pow_subset}
use Rattle.rules.proofs.Lists.{T_both, T_left, T_right}

pub agrees_long : (l p : List ℕ) → T (agrees l p) → length p ≡ length l
agrees_long [] [] t = refl
agrees_long [] (c ∷ p) t = absurd t
agrees_long (s ∷ l) [] t = absurd t
agrees_long (s ∷ l) (c ∷ p) t = ap suc (agrees_long l p (T_right (can_take s c) (agrees l p) t))

pub get_or-join : (l m : List ℕ) (i : ℕ) → get_or (join l m) i 0 ≡ bit_or (get_or l i 0) (get_or m i 0)
get_or-join [] m i = sym (or_zero_l (get_or m i 0))
get_or-join (a ∷ l) [] i = sym (or_zero_r (get_or (a ∷ l) i 0))
get_or-join (a ∷ l) (b ∷ m) zero = refl
get_or-join (a ∷ l) (b ∷ m) (suc i) = get_or-join l m i

pub length-join : (l m : List ℕ) → length l ≡ length m → length (join l m) ≡ length m
length-join [] m e = refl
length-join (a ∷ l) [] e = e
length-join (a ∷ l) (b ∷ m) e = ap suc (length-join l m (omega arith))

-- ---- the answer is what the rules say

-- the placements are those of a list
abbrev pub In : List (List ℕ) → List ℕ → Type 0
In ps p = Memᴰ p ps

module _ (l p : List ℕ) (ps : List (List ℕ)) where
  later : {q : List ℕ} → Fitting (In ps) l q → Fitting (In (p ∷ ps)) l q
  later f = record { member = Memᴰ.tail f.member; fits = f.fits }

  first_or_later : {q : List ℕ} → Fitting (In (p ∷ ps)) l q → (q ≡ p) ⊎ Fitting (In ps) l q
  first_or_later {q} f = go (Memᴰ.cases_cons f.member)
    where
      go : (q ≡ p) ⊎ Memᴰ q ps → (q ≡ p) ⊎ Fitting (In ps) l q
      go (inl e) = inl e
      go (inr m) = inr (record { member = m; fits = f.fits })

  shown_later : {i k : ℕ} → Shown (In ps) l i k → Shown (In (p ∷ ps)) l i k
  shown_later s = record { by = s.by; ok = later s.ok; gives = s.gives }

  -- where p does not agree, nothing is new
  skip : agrees l p ≡ false → {q : List ℕ} → Fitting (In (p ∷ ps)) l q → Fitting (In ps) l q
  skip e {q} f = go (first_or_later f)
    where
      go : (q ≡ p) ⊎ Fitting (In ps) l q → Fitting (In ps) l q
      go (inl u) = absurd (subst T e (subst (λ t. T (agrees l t)) u f.fits))
      go (inr g) = g

  shown_skip : agrees l p ≡ false → {i k : ℕ} → Shown (In (p ∷ ps)) l i k → Shown (In ps) l i k
  shown_skip e s = record { by = s.by; ok = skip e s.ok; gives = s.gives }

  first : agrees l p ≡ true → Fitting (In (p ∷ ps)) l p
  first e = record { member = Memᴰ.head refl; fits = subst T (sym e) tt }

  -- a colour that an agreeing placement gives is given by p or by another
  shown_first : {i k : ℕ} → Shown (In (p ∷ ps)) l i k → Has (get_or p i 0) k ⊎ Shown (In ps) l i k
  shown_first {i} {k} s = go (first_or_later s.ok)
    where
      go : (s.by ≡ p) ⊎ Fitting (In ps) l s.by → Has (get_or p i 0) k ⊎ Shown (In ps) l i k
      go (inl u) = inl (subst (λ t. Has (get_or t i 0) k) u s.gives)
      go (inr g) = inr (record { by = s.by; ok = g; gives = s.gives })

  count_right : (b : Bool) (o : Option (List ℕ)) → agrees l p ≡ b → Answers (In ps) l o → Answers (In (p ∷ ps)) l (count_in b p o)
  count_right false none e r = record { never = λ q f. r.never q (skip e f) }
  count_right false (some m) e r =
      record {
        long = r.long;
        any = (r.any.0, later r.any.1);
        sound = λ i k h. shown_later (r.sound i k h);
        whole = λ i k s. r.whole i k (shown_skip e s);
      }
  count_right true none e r =
      record {
        long = agrees_long l p (subst T (sym e) tt);
        any = (p, first e);
        sound = λ i k h. record { by = p; ok = first e; gives = h };
        whole = λ i k s. ⊎_elim (λ h. h) (λ t. absurd (r.never t.by t.ok)) (shown_first s);
      }
  count_right true (some m) e r =
      record {
        long = length-join p m (agrees_long l p (subst T (sym e) tt) ∙ sym r.long) ∙ r.long;
        any = (p, first e);
        sound = λ i k h.
            ⊎_elim (λ g. record { by = p; ok = first e; gives = g }) (λ g. shown_later (r.sound i k g))
            (has_or (get_or p i 0) (get_or m i 0) (rw get_or-join at h));
        whole = λ i k s.
            rw get_or-join (⊎_elim (has_left (get_or m i 0)) (λ t. has_right (get_or p i 0) (r.whole i k t)) (shown_first s));
      }

pub answer_right : (ps : List (List ℕ)) (l : List ℕ) → Answers (In ps) l (answer ps l)
answer_right [] l = record { never = λ p f. Memᴰ.not-nil f.member }
answer_right (p ∷ ps) l = count_right l p ps (agrees l p) (answer ps l) refl (answer_right ps l)

-- ---- one line within another

pub within_refl : (l : List ℕ) → Within l l
within_refl l = record { long = refl; each = λ i. subset_refl (get_or l i 0) }

pub within_trans : {l m n : List ℕ} → Within l m → Within m n → Within l n
within_trans f g = record { long = f.long ∙ g.long; each = λ i. subset_trans (f.each i) (g.each i) }

pub within_antisym : {l m : List ℕ} → Within l m → Within m l → l ≡ m
within_antisym {l} {m} f g = ext_get_or 0 l m f.long (λ i h. subset_antisym (f.each i) (g.each i))

-- at most one answer is what the rules say
pub answer_only : (P : List ℕ → Type 0) (l : List ℕ) (o u : Option (List ℕ)) → Answers P l o → Answers P l u → o ≡ u
answer_only P l none none r s = refl
answer_only P l none (some m) r s = absurd (r.never s.any.0 s.any.1)
answer_only P l (some m) none r s = absurd (s.never r.any.0 r.any.1)
answer_only P l (some m) (some n) r s =
    ap {B = Option (List ℕ)} some
    (within_antisym
    (record { long = r.long ∙ sym s.long; each = λ i k h. s.whole i k (r.sound i k h) })
    (record { long = s.long ∙ sym r.long; each = λ i k h. r.whole i k (s.sound i k h) }))

-- where a list has the placements, its answer is what the rules say
pub answer_for : {P : List ℕ → Type 0} (ps : List (List ℕ)) → ((p : List ℕ) → Memᴰ p ps ↔ P p) → (l : List ℕ) → Answers P l (answer ps l)
answer_for {P} ps e l = go (answer ps l) (answer_right ps l)
  where
    to : {p : List ℕ} → Fitting (In ps) l p → Fitting P l p
    to {p} f = record { member = (e p).0 f.member; fits = f.fits }

    back : {p : List ℕ} → Fitting P l p → Fitting (In ps) l p
    back {p} f = record { member = (e p).1 f.member; fits = f.fits }

    go : (o : Option (List ℕ)) → Answers (In ps) l o → Answers P l o
    go none r = record { never = λ p f. r.never p (back f) }
    go (some m) r =
        record {
          long = r.long;
          any = (r.any.0, to r.any.1);
          sound = λ i k h. let s = r.sound i k h in record { by = s.by; ok = to s.ok; gives = s.gives };
          whole = λ i k s. r.whole i k (record { by = s.by; ok = back s.ok; gives = s.gives });
        }

-- ---- a placement whose cells have one colour each agrees with a line exactly if it lies within it

colour_subset : (s c : ℕ) → Colour c → T (can_take s c) → Subset c s
colour_subset s c (k, e) t = rw e (pow_subset (has_can s k (rw e at t)))

subset_colour : (s c : ℕ) → Colour c → Subset c s → T (can_take s c)
subset_colour s c (k, e) w = rw e (can_has (w k (rw e (has_pow k))))

agrees_each : (l p : List ℕ) → Proper p → T (agrees l p) → (i : ℕ) → Subset (get_or p i 0) (get_or l i 0)
agrees_each [] [] o t i = subset_refl 0
agrees_each [] (c ∷ p) o t i = absurd t
agrees_each (s ∷ l) [] o t i = absurd t
agrees_each (s ∷ l) (c ∷ p) o t zero = colour_subset s c o.0 (T_left (can_take s c) (agrees l p) t)
agrees_each (s ∷ l) (c ∷ p) o t (suc i) = agrees_each l p o.1 (T_right (can_take s c) (agrees l p) t) i

pub agrees_within : (l p : List ℕ) → Proper p → T (agrees l p) → Within p l
agrees_within l p o t = record { long = agrees_long l p t; each = agrees_each l p o t }

pub within_agrees : (l p : List ℕ) → Proper p → Within p l → T (agrees l p)
within_agrees [] [] o u = tt
within_agrees [] (c ∷ p) o u = omega (arith, u.long)
within_agrees (s ∷ l) [] o u = omega (arith, u.long)
within_agrees (s ∷ l) (c ∷ p) o u =
    T_both (can_take s c) (agrees l p) (subset_colour s c o.0 (u.each 0))
    (within_agrees l p o.1 (record { long = omega (arith, u.long); each = λ i. u.each (suc i) }))

pub proper_at : (p : List ℕ) (i : ℕ) → Proper p → i < length p → Colour (get_or p i 0)
proper_at [] i o h = absurd (not-suc-le-zero h)
proper_at (c ∷ p) zero o h = o.0
proper_at (c ∷ p) (suc i) o h = proper_at p i o.1 (le_of_suc-le-suc h)

-- ---- what the answer does to a line

module _ {P : List ℕ → Type 0} (o : (p : List ℕ) → P p → Proper p) where
  -- what agrees with a line agrees with every wider one
  pub wider : {l m p : List ℕ} → Within l m → Fitting P l p → Fitting P m p
  wider {l} {m} {p} u f =
      let c = o p f.member in
      record { member = f.member; fits = within_agrees m p c (within_trans (agrees_within l p c f.fits) u) }

  pub shown_wider : {l m : List ℕ} {i k : ℕ} → Within l m → Shown P l i k → Shown P m i k
  shown_wider u s = record { by = s.by; ok = wider u s.ok; gives = s.gives }

  pub shown_has : {l : List ℕ} {i k : ℕ} → Shown P l i k → Has (get_or l i 0) k
  shown_has {l} {i} {k} s = (agrees_within l s.by (o s.by s.ok.member) s.ok.fits).each i k s.gives

  -- the answer lies within the line
  pub narrows : {l m : List ℕ} → Exact P l m → Within m l
  narrows x = record { long = x.long; each = λ i k h. shown_has (x.sound i k h) }

  -- what agrees with the line agrees with the answer
  pub keeps : {l m p : List ℕ} → Exact P l m → Fitting P l p → Fitting P m p
  keeps {l} {m} {p} x f =
      record {
        member = f.member;
        fits = within_agrees m p (o p f.member)
            (record { long = agrees_long l p f.fits ∙ sym x.long; each = λ i k h. x.whole i k (record { by = p; ok = f; gives = h }) });
      }

  -- the answer of the answer is the answer
  pub again : {l m : List ℕ} → Exact P l m → Exact P m m
  again x =
      record {
        long = refl;
        any = (x.any.0, keeps x x.any.1);
        sound = λ i k h. let s = x.sound i k h in record { by = s.by; ok = keeps x s.ok; gives = s.gives };
        whole = λ i k s. shown_has s;
      }

  -- a wider line has a wider answer
  pub grows : {l l' m m' : List ℕ} → Within l l' → Exact P l m → Exact P l' m' → Within m m'
  grows u x y = record { long = x.long ∙ u.long ∙ sym y.long; each = λ i k h. y.whole i k (shown_wider u (x.sound i k h)) }

  -- and where the wider line is refused, so is the narrower
  pub refuses : {l l' : List ℕ} → Within l l' → Refused P l' → Refused P l
  refuses u r = record { never = λ p f. r.never p (wider u f) }

  -- no cell of the answer is empty
  pub full : {l m : List ℕ} → Exact P l m → (i : ℕ) → i < length l → (k : ℕ) × Has (get_or m i 0) k
  full {l} x i h =
      let a = x.any in
      let c = proper_at a.0 i (o a.0 a.1.member) (omega (arith, agrees_long l a.0 a.1.fits)) in
      (c.0, x.whole i c.0 (record { by = a.0; ok = a.1; gives = rw c.1 (has_pow c.0) }))
