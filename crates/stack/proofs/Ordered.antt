-- The starting order that is laid out distance by distance: its codes are the paper's full stack.
use mathlib.Core.Path.{◌≡◌, refl, sym, ap, ap₂, ◌∙◌, subst}
use mathlib.Core.Bool.{cond}
use mathlib.Core.Logic.{◌⊎◌, ◌≢◌, inl, inr}
use mathlib.Core.List.Memᴰ
use mathlib.Core.List.{List, [], ◌∷◌, ◌++◌, map, map-append, reverse_aux, append_assoc, append-nil, Memᴰ}
use Prim.Native.Nat.{ℕ, zero, suc, ◌+◌, ◌-◌, ◌/◌, ◌≤◌, ◌<◌}
use native.Mathlib.Nat.{add-zero}
use native.Mathlib.Numerals.{add-one}
use native.Mathlib.Omega.{arith}
use borrow.Author.Tests.{lt-ltb, le-ltb, eq-eqb, ne_eqb}
use lib.Dec.{eqb}
use lib.ListN.{length, length-map, length-append, length-reverse}
use Rattle.rules.specs.declared.LinePosition.{LinePosition}
use Rattle.rules.specs.Board.{row, column}
use Rattle.rules.specs.Run.{up_from, all_lines, distance, sorted, full_stack}
use Rattle.rules.proofs.Lists.{map-mem}
use Rattle.rules.proofs.Stacks.{up_from_mem, length-full_stack}
use Rattle.rules.proofs.Tests.{Compared, nat_eq_cases, below?}
use Rattle.rules.specs.Refusal.{stack_size}
use Rattle.stack.specs.declared.Stack.{Stack}
use Rattle.stack.specs.Stack.{line_of_code, stack_of, Starts}
use Rattle.stack.specs.Steps.{code_at, around, codes_from, Piled}
use Rattle.stack.proofs.Coded.{code_row, code_column}
use Rattle.stack.proofs.Piling.{Leaving, piled_count, leave_more, leave_count, leave_none}
use Rattle.stack.proofs.Buckets.{near, buckets, bucket_all, sorted_buckets}

-- ---- the two lines at a distance

-- how far an index is from c
abbrev far : ℕ → ℕ → ℕ
far c i = (i - c) + (c - i)

near_none : (c d m k : ℕ) → ((i : ℕ) → m ≤ i → i < m + k → far c i ≢ d) → near c d m k ≡ []
near_none c d m zero f = refl
near_none c d m (suc k) f =
    rw (ne_eqb (far c m) d (f m (omega arith) (omega arith))) (near_none c d (suc m) k (λ i p q. f i (omega arith) (omega arith)))

-- the first index p at that distance, and the r indexes after it
near_first : (c d m k p r : ℕ) → m ≤ p → m + k ≡ suc p + r → far c p ≡ d → ((i : ℕ) → m ≤ i → i < p → far c i ≢ d)
    → near c d m k ≡ p ∷ near c d (suc p) r
near_first c d m zero p r a b e f = absurd (omega arith)
near_first c d m (suc k) p r a b e f = go (nat_eq_cases m p) (near_first c d (suc m) k p r)
  where
    go : Compared m p
        → (suc m ≤ p → suc m + k ≡ suc p + r → far c p ≡ d → ((i : ℕ) → suc m ≤ i → i < p → far c i ≢ d)
        → near c d (suc m) k ≡ p ∷ near c d (suc p) r)
        → near c d m (suc k) ≡ p ∷ near c d (suc p) r
    go (inl q) up =
        let t : far c m ≡ d = ap (far c) q.0 ∙ e in
        let n : k ≡ r = omega (arith, q.0) in
        rw (eq-eqb (far c m) d t) (ap₂ (λ (x y : ℕ). x ∷ near c d (suc x) y) q.0 n)
    go (inr q) up =
        rw (ne_eqb (far c m) d (f m (omega arith) (omega (arith, q.0))))
        (up (omega (arith, q.0)) (omega arith) e (λ i x y. f i (omega arith) y))

-- a direction: n lines, the first of which has the code base
module _ (base : ℕ) (f : ℕ → LinePosition) (code : (i : ℕ) → i < 64 → line_of_code (i + base) ≡ f i) (n : ℕ) (small : n ≤ 64) where
  -- the middle line
  abbrev mid : ℕ
  mid = n / 2

  one_line : (i : ℕ) → i < n → map line_of_code (code_at base n i) ≡ f i ∷ []
  one_line i h = rw (lt-ltb i n h) (ap (λ x. x ∷ []) (code i (omega arith)))

  no_line : (i : ℕ) → n ≤ i → map line_of_code (code_at base n i) ≡ []
  no_line i h = rw (le-ltb i n h)

  none_near : (d m k : ℕ) → ((i : ℕ) → m ≤ i → i < m + k → far mid i ≢ d) → [] ≡ map f (near mid d m k)
  none_near d m k g = sym (ap (λ (l : List ℕ). map f l) (near_none mid d m k g))

  module _ (d : ℕ) (inside : d ≤ mid) where
    -- beyond the lower one there is the upper one, or none
    upper : (r : ℕ) → d ≢ 0 → n ≡ suc (mid - d) + r → map line_of_code (code_at base n (mid + d)) ≡ map f (near mid d (suc (mid - d)) r)
    upper r z b =
        below? (mid + d) n (λ q. one_line (mid + d) q ∙ sym (ap (λ (l : List ℕ). map f l) (last q)))
        (λ q. no_line (mid + d) q ∙ none_near d (suc (mid - d)) r (λ i x y e. omega arith))
      where
        last : mid + d < n → near mid d (suc (mid - d)) r ≡ (mid + d) ∷ []
        last q =
            near_first mid d (suc (mid - d)) r (mid + d) (n - suc (mid + d)) (omega arith) (omega arith) (omega arith) (λ i x y e. omega arith)
            ∙ ap (λ (l : List ℕ). (mid + d) ∷ l) (near_none mid d (suc (mid + d)) (n - suc (mid + d)) (λ i x y e. omega arith))

    rest : 0 < n → Compared d 0
        → map line_of_code (cond (eqb d 0) [] (code_at base n (mid + d))) ≡ map f (near mid d (suc (mid - d)) (n - suc (mid - d)))
    rest p (inl z) = rw z.1 (none_near d (suc (mid - d)) (n - suc (mid - d)) (λ i x y e. omega (arith, z.0)))
    rest p (inr z) = rw z.1 (upper (n - suc (mid - d)) z.0 (omega arith))

    both : map line_of_code (code_at base n (mid - d)) ++ map line_of_code (cond (eqb d 0) [] (code_at base n (mid + d))) ≡ map f (near mid d 0 n)
    both =
        below? 0 n
        (λ p. ap₂ (λ (a b : List LinePosition). a ++ b) (one_line (mid - d) (omega arith)) (rest p (nat_eq_cases d 0))
        ∙ sym (ap (λ (l : List ℕ). map f l) (lower p)))
        (λ p. ap₂ (λ (a b : List LinePosition). a ++ b) (no_line (mid - d) (omega arith)) (empty p) ∙ none_near d 0 n (λ i x y e. omega arith))
      where
        lower : 0 < n → near mid d 0 n ≡ (mid - d) ∷ near mid d (suc (mid - d)) (n - suc (mid - d))
        lower p = near_first mid d 0 n (mid - d) (n - suc (mid - d)) (omega arith) (omega arith) (omega arith) (λ i x y e. omega arith)

        empty : n ≤ 0 → map line_of_code (cond (eqb d 0) [] (code_at base n (mid + d))) ≡ []
        empty p = rw (eq-eqb d 0 (omega arith))

  around_lines : (d : ℕ) → map line_of_code (around base n d) ≡ map f (near mid d 0 n)
  unfolding around
  around_lines d =
      below? mid d (λ q. rw (lt-ltb mid d q) (none_near d 0 n (λ i x y e. omega arith)))
      (λ q. rw (le-ltb mid d q) (map-append line_of_code (code_at base n (mid - d)) (cond (eqb d 0) [] (code_at base n (mid + d))) ∙ both d q))

-- ---- all distances

module _ (w h : ℕ) (wide : w ≤ 64) (high : h ≤ 64) where
  columns : (i : ℕ) → i < 64 → line_of_code (i + 0) ≡ column i
  columns i p = ap line_of_code (add-zero i) ∙ code_column i p

  codes_buckets : (d k : ℕ) → map line_of_code (codes_from w h d k) ≡ buckets w h d k (all_lines w h)
  unfolding codes_from
  codes_buckets d zero = refl
  codes_buckets d (suc k) =
      map-append line_of_code (around 0 w d) (around 64 h d ++ codes_from w h (suc d) k)
      ∙ ap₂ (λ (a b : List LinePosition). a ++ b) (around_lines 0 column columns w wide d)
      (map-append line_of_code (around 64 h d) (codes_from w h (suc d) k)
      ∙ ap₂ (λ (a b : List LinePosition). a ++ b) (around_lines 64 row (λ i p. code_row i) h high d) (codes_buckets (suc d) k))
      ∙ sym (append_assoc (map column (near (w / 2) d 0 w)) (map row (near (h / 2) d 0 h)) (buckets w h (suc d) k (all_lines w h)))
      ∙ ap (λ (a : List LinePosition). a ++ buckets w h (suc d) k (all_lines w h)) (sym (bucket_all w h d))

  all_near : (m : LinePosition) → Memᴰ m (all_lines w h) → distance w h m < 33
  all_near m u = go (Memᴰ.append_cases (map column (up_from 0 w)) u)
    where
      go : Memᴰ m (map column (up_from 0 w)) ⊎ Memᴰ m (map row (up_from 0 h)) → distance w h m < 33
      go (inl v) =
          let r = map-mem column (up_from 0 w) v in
          subst (λ (l : LinePosition). distance w h l < 33) (sym r.2) (omega (arith, up_from_mem 0 w r.0 r.1))
      go (inr v) =
          let r = map-mem row (up_from 0 h) v in
          subst (λ (l : LinePosition). distance w h l < 33) (sym r.2) (omega (arith, up_from_mem 0 h r.0 r.1))

  codes_sorted : map line_of_code (codes_from w h 0 33) ≡ sorted w h (all_lines w h)
  codes_sorted = codes_buckets 0 33 ∙ sym (sorted_buckets w h 33 (all_lines w h) all_near)

  codes_length : length (codes_from w h 0 33) ≡ w + h
  unfolding full_stack
  codes_length =
      sym (length-map (codes_from w h 0 33) line_of_code) ∙ ap length codes_sorted ∙ sym (length-reverse (sorted w h (all_lines w h)))
      ∙ length-full_stack w h

-- ---- the lines at one distance, laid out one after the other

module _ (base n d : ℕ) where
  pub around_none : n / 2 < d → around base n d ≡ []
  unfolding around
  around_none p = rw (lt-ltb (n / 2) d p)

  around_within : d ≤ n / 2 → around base n d ≡ code_at base n (n / 2 - d) ++ cond (eqb d 0) [] (code_at base n (n / 2 + d))
  unfolding around
  around_within p = rw (le-ltb (n / 2) d p)

  pub around_one : d ≤ n / 2 → d ≡ 0 → around base n d ≡ code_at base n (n / 2 - d)
  around_one p e = around_within p ∙ rw (eq-eqb d 0 e) (append-nil (code_at base n (n / 2 - d)))

  pub around_two : d ≤ n / 2 → d ≢ 0 → around base n d ≡ code_at base n (n / 2 - d) ++ code_at base n (n / 2 + d)
  around_two p e = around_within p ∙ rw (ne_eqb d 0 e)

  -- there is room for the lower line, and then for the upper one
  pub around_low : d ≤ n / 2 → length (code_at base n (n / 2 - d)) ≤ length (around base n d)
  around_low p =
      omega (arith, ap length (around_within p), length-append (code_at base n (n / 2 - d)) (cond (eqb d 0) [] (code_at base n (n / 2 + d))))

  pub around_high : d ≤ n / 2 → d ≢ 0 → {s s' : Stack} → Piled s (code_at base n (n / 2 - d)) s' → s.count + length (around base n d) ≤ length s.codes.now
      → s'.count + length (code_at base n (n / 2 + d)) ≤ length s'.codes.now
  around_high p e {s} {s'} q r = omega (
    arith,
    piled_count q,
    q.kept.long,
    ap length (around_two p e),
    length-append (code_at base n (n / 2 - d)) (code_at base n (n / 2 + d)),
  )

-- ---- the loop over the distances

-- the lines of the distances below d are pushed, and those that are left give the whole
pub record Ordering (w h : ℕ) (s₀ s : Stack) (d : ℕ) : Type 0 where
  pub left : Leaving s₀ (codes_from w h 0 33) s (codes_from w h d (33 - d))

codes_step : (w h d : ℕ) → d < 33 → codes_from w h d (33 - d) ≡ around 0 w d ++ (around 64 h d ++ codes_from w h (d + 1) (33 - (d + 1)))
unfolding codes_from
codes_step w h d p = let e : 33 - d ≡ suc (33 - (d + 1)) = omega arith in rw (e, add-one d)

codes_end : (w h d : ℕ) → 33 ≤ d → codes_from w h d (33 - d) ≡ []
unfolding codes_from
codes_end w h d p = let e : 33 - d ≡ 0 = omega arith in rw e

module _ {w h : ℕ} {s₀ s : Stack} {d : ℕ} (v : Ordering w h s₀ s d) where
  module _ (more : d < 33) where
    after_columns : {s₁ : Stack} → Piled s (around 0 w d) s₁
        → Leaving s₀ (codes_from w h 0 33) s₁ (around 64 h d ++ codes_from w h (d + 1) (33 - (d + 1)))
    after_columns p = leave_more v.left (codes_step w h d more) p

    pub order_more : {s₁ s₂ : Stack} → Piled s (around 0 w d) s₁ → Piled s₁ (around 64 h d) s₂ → Ordering w h s₀ s₂ (d + 1)
    order_more p q = record { left = leave_more (after_columns p) refl q }

    module _ (wide : w ≤ 64) (high : h ≤ 64) (fresh : s₀.count ≡ 0) (room : stack_size ≤ length s₀.codes.now) where
      -- there is room for the columns, and then for the rows
      pub room_columns : s.count + length (around 0 w d) ≤ length s.codes.now
      room_columns = omega (
        arith,
        leave_count v.left,
        v.left.kept.long,
        ap length (codes_step w h d more),
        length-append (around 0 w d) (around 64 h d ++ codes_from w h (d + 1) (33 - (d + 1))),
        codes_length w h wide high,
      )

      pub room_rows : {s₁ : Stack} → Piled s (around 0 w d) s₁ → s₁.count + length (around 64 h d) ≤ length s₁.codes.now
      room_rows p = omega (
        arith,
        leave_count (after_columns p),
        (after_columns p).kept.long,
        length-append (around 64 h d) (codes_from w h (d + 1) (33 - (d + 1))),
        codes_length w h wide high,
      )

  module _ (last : 33 ≤ d) (wide : w ≤ 64) (high : h ≤ 64) (fresh : s₀.count ≡ 0) where
    piled_all : Piled s₀ (codes_from w h 0 33) s
    piled_all = leave_none v.left (codes_end w h d last)

    pub order_starts : Starts (full_stack w h) s₀.codes.now s
    unfolding full_stack
    order_starts = record {
      lines =
          piled_all.lines ∙ ap (λ n. reverse_aux (map line_of_code (codes_from w h 0 33)) (stack_of s₀.codes.now n)) fresh
          ∙ ap (λ (l : List LinePosition). reverse_aux l []) (codes_sorted w h wide high);
      long = v.left.kept.long;
    }

    pub order_count : s.count ≡ w + h
    order_count = omega (arith, piled_count piled_all, codes_length w h wide high)
