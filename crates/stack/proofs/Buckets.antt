-- The paper's sorted list of lines, distance by distance.
use mathlib.Core.Path.{◌≡◌, refl, sym, ap, ap₂, ◌∙◌}
use mathlib.Core.Bool.{Bool, true, false, cond}
use mathlib.Core.Logic.{inl, inr, ⊎_elim}
use mathlib.Core.List.Memᴰ
use mathlib.Core.List.{List, [], ◌∷◌, ◌++◌, map, Memᴰ}
use Prim.Native.Nat.{ℕ, zero, suc, ◌+◌, ◌-◌, ◌/◌, ◌≤◌, ◌<◌}
use native.Mathlib.Omega.{arith}
use borrow.Author.Tests.{le-leb, lt-leb, ne_eqb}
use lib.Dec.{eqb}
use Rattle.rules.specs.declared.LinePosition.{LinePosition}
use Rattle.rules.specs.Board.{row, column}
use Rattle.rules.specs.Run.{up_from, all_lines, distance, insert, sorted}
use Rattle.rules.proofs.Tests.{Compared, nat_eq_cases}

-- of the indexes m, m + 1, .. m + k - 1 those at distance d from c
abbrev pub near : (c d m k : ℕ) → List ℕ
near c d m zero = []
near c d m (suc k) = cond (eqb ((m - c) + (c - m)) d) (m ∷ near c d (suc m) k) (near c d (suc m) k)

module _ (w h : ℕ) where
  -- the lines at distance d, in the order written
  abbrev pub bucket : ℕ → List LinePosition → List LinePosition
  bucket d [] = []
  bucket d (l ∷ st) = cond (eqb (distance w h l) d) (l ∷ bucket d st) (bucket d st)

  -- those at the distances d, d + 1, .. d + k - 1, one distance after the other
  abbrev pub buckets : ℕ → ℕ → List LinePosition → List LinePosition
  buckets d zero st = []
  buckets d (suc k) st = bucket d st ++ buckets (suc d) k st

  bucket_mem : (d : ℕ) {m : LinePosition} (st : List LinePosition) → Memᴰ m (bucket d st) → distance w h m ≡ d
  bucket_mem d [] u = absurd (Memᴰ.not-nil u)
  bucket_mem d {m} (l ∷ st) u = go (nat_eq_cases (distance w h l) d) u (bucket_mem d st)
    where
      go : Compared (distance w h l) d → Memᴰ m (cond (eqb (distance w h l) d) (l ∷ bucket d st) (bucket d st))
          → (Memᴰ m (bucket d st) → distance w h m ≡ d) → distance w h m ≡ d
      go (inl p) v up = ⊎_elim (λ e. ap (distance w h) e ∙ p.0) up (Memᴰ.cases_cons (rw p.1 at v))
      go (inr p) v up = up (rw p.1 at v)

  buckets_mem : (d k : ℕ) {m : LinePosition} (st : List LinePosition) → Memᴰ m (buckets d k st) → d ≤ distance w h m
  buckets_mem d zero st u = absurd (Memᴰ.not-nil u)
  buckets_mem d (suc k) st u =
      ⊎_elim (λ v. omega (arith, bucket_mem d st v)) (λ v. omega (arith, buckets_mem (suc d) k st v)) (Memᴰ.append_cases (bucket d st) u)

  -- ---- a line more

  insert_first : (l : LinePosition) (st : List LinePosition) → ((m : LinePosition) → Memᴰ m st → distance w h l ≤ distance w h m)
      → insert w h l st ≡ l ∷ st
  insert_first l [] f = refl
  insert_first l (m ∷ st) f = rw (le-leb (distance w h l) (distance w h m) (f m (Memᴰ.head refl)))

  insert_past : (l : LinePosition) (xs ys : List LinePosition) → ((m : LinePosition) → Memᴰ m xs → distance w h m < distance w h l)
      → insert w h l (xs ++ ys) ≡ xs ++ insert w h l ys
  insert_past l [] ys f = refl
  insert_past l (m ∷ xs) ys f =
      rw (lt-leb (distance w h l) (distance w h m) (f m (Memᴰ.head refl)))
      (ap (λ (st : List LinePosition). m ∷ st) (insert_past l xs ys (λ k u. f k (Memᴰ.tail u))))

  buckets_skip : (l : LinePosition) (st : List LinePosition) (d k : ℕ) → distance w h l < d → buckets d k (l ∷ st) ≡ buckets d k st
  buckets_skip l st d zero p = refl
  buckets_skip l st d (suc k) p =
      rw (ne_eqb (distance w h l) d (λ e. omega arith)) (ap (λ (t : List LinePosition). bucket d st ++ t) (buckets_skip l st (suc d) k (omega arith)))

  insert_buckets : (l : LinePosition) (st : List LinePosition) (d k : ℕ) → d ≤ distance w h l → distance w h l < d + k
      → insert w h l (buckets d k st) ≡ buckets d k (l ∷ st)
  insert_buckets l st d zero p q = absurd (omega arith)
  insert_buckets l st d (suc k) p q = go (nat_eq_cases (distance w h l) d) (insert_buckets l st (suc d) k)
    where
      go : Compared (distance w h l) d
          → (suc d ≤ distance w h l → distance w h l < suc d + k → insert w h l (buckets (suc d) k st) ≡ buckets (suc d) k (l ∷ st))
          → insert w h l (buckets d (suc k) st) ≡ buckets d (suc k) (l ∷ st)
      go (inl e) up =
          insert_first l (buckets d (suc k) st) (λ m u. omega (arith, buckets_mem d (suc k) st u, e.0))
          ∙ sym (rw e.1 (ap (λ (t : List LinePosition). l ∷ (bucket d st ++ t)) (buckets_skip l st (suc d) k (omega (arith, e.0)))))
      go (inr e) up =
          rw e.1
          (insert_past l (bucket d st) (buckets (suc d) k st) (λ m u. omega (arith, bucket_mem d st u, e.0))
          ∙ ap (λ (t : List LinePosition). bucket d st ++ t) (up (omega (arith, e.0)) (omega arith)))

  buckets_none : (d k : ℕ) → buckets d k [] ≡ []
  buckets_none d zero = refl
  buckets_none d (suc k) = buckets_none (suc d) k

  pub sorted_buckets : (k : ℕ) (st : List LinePosition) → ((m : LinePosition) → Memᴰ m st → distance w h m < k)
      → sorted w h st ≡ buckets 0 k st
  sorted_buckets k [] f = sym (buckets_none 0 k)
  sorted_buckets k (l ∷ st) f =
      ap (λ (t : List LinePosition). insert w h l t) (sorted_buckets k st (λ m u. f m (Memᴰ.tail u)))
      ∙ insert_buckets l st 0 k (omega arith) (omega (arith, f l (Memᴰ.head refl)))

  -- ---- the lines of one direction

  bucket_append : (d : ℕ) (xs ys : List LinePosition) → bucket d (xs ++ ys) ≡ bucket d xs ++ bucket d ys
  bucket_append d [] ys = refl
  bucket_append d (l ∷ xs) ys = go (eqb (distance w h l) d) (bucket_append d xs ys)
    where
      go : (t : Bool) → bucket d (xs ++ ys) ≡ bucket d xs ++ bucket d ys
          → cond t (l ∷ bucket d (xs ++ ys)) (bucket d (xs ++ ys)) ≡ cond t (l ∷ bucket d xs) (bucket d xs) ++ bucket d ys
      go true e = ap (λ (t : List LinePosition). l ∷ t) e
      go false e = e

  bucket_map : (f : ℕ → LinePosition) (c : ℕ) → ((i : ℕ) → distance w h (f i) ≡ (i - c) + (c - i)) → (d m k : ℕ)
      → bucket d (map f (up_from m k)) ≡ map f (near c d m k)
  bucket_map f c e d m zero = refl
  bucket_map f c e d m (suc k) = rw (e m) (go (eqb ((m - c) + (c - m)) d) (bucket_map f c e d (suc m) k))
    where
      go : (t : Bool) → bucket d (map f (up_from (suc m) k)) ≡ map f (near c d (suc m) k)
          → cond t (f m ∷ bucket d (map f (up_from (suc m) k))) (bucket d (map f (up_from (suc m) k)))
          ≡ map f (cond t (m ∷ near c d (suc m) k) (near c d (suc m) k))
      go true q = ap (λ (t : List LinePosition). f m ∷ t) q
      go false q = q

  pub bucket_all : (d : ℕ) → bucket d (all_lines w h) ≡ map column (near (w / 2) d 0 w) ++ map row (near (h / 2) d 0 h)
  bucket_all d =
      bucket_append d (map column (up_from 0 w)) (map row (up_from 0 h))
      ∙ ap₂ (λ (a b : List LinePosition). a ++ b) (bucket_map column (w / 2) (λ i. refl) d 0 w) (bucket_map row (h / 2) (λ i. refl) d 0 h)
