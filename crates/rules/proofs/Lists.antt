-- Membership, tests and elements of lists: what the libraries lack.
use mathlib.Core.Path.{◌≡◌, refl, ap}
use mathlib.Core.Bool.{Bool, true, false, ◌&&◌}
use mathlib.Core.Logic.{◌⊎◌, inl, inr, ⊎_elim}
use mathlib.Core.List.Memᴰ
use mathlib.Core.List.{List, [], ◌∷◌, map, reverse, reverse_aux, Memᴰ}
use Prim.Native.Nat.{ℕ, ◌+◌, ◌-◌}
use native.Mathlib.Omega.{arith}
use lib.Dec.{T}

pub T_both : (a b : Bool) → T a → T b → T (a && b)
T_both true b s t = t
T_both false b s t = s

pub T_left : (a b : Bool) → T (a && b) → T a
T_left true b t = tt
T_left false b t = t

pub T_right : (a b : Bool) → T (a && b) → T b
T_right true b t = t
T_right false b t = absurd t

pub mem-map : {A B : Type 0} (f : A → B) {a : A} {l : List A} → Memᴰ a l → Memᴰ (f a) (map f l)
mem-map f (Memᴰ.head e) = Memᴰ.head (ap f e)
mem-map f (Memᴰ.tail m) = Memᴰ.tail (mem-map f m)

pub map-mem : {A B : Type 0} (f : A → B) {b : B} (l : List A) → Memᴰ b (map f l) → (a : A) × Memᴰ a l × (b ≡ f a)
map-mem f [] m = absurd (Memᴰ.not-nil m)
map-mem {A} f {b} (x ∷ l) m = step (λ n. map-mem f l n) (Memᴰ.cases_cons m)
  where
    step : (Memᴰ b (map f l) → (a : A) × Memᴰ a l × (b ≡ f a)) → (b ≡ f x) ⊎ Memᴰ b (map f l)
        → (a : A) × Memᴰ a (x ∷ l) × (b ≡ f a)
    step up (inl e) = (x, Memᴰ.head refl, e)
    step up (inr n) = let r = up n in (r.0, Memᴰ.tail r.1, r.2)

pub mem_reverse_aux : {A : Type 0} {k : A} (l r : List A) → Memᴰ k l ⊎ Memᴰ k r → Memᴰ k (reverse_aux l r)
mem_reverse_aux [] r (inl m) = absurd (Memᴰ.not-nil m)
mem_reverse_aux [] r (inr m) = m
mem_reverse_aux (x ∷ l) r (inl m) = mem_reverse_aux l (x ∷ r) (⊎_elim (λ e. inr (Memᴰ.head e)) (λ n. inl n) (Memᴰ.cases_cons m))
mem_reverse_aux (x ∷ l) r (inr m) = mem_reverse_aux l (x ∷ r) (inr (Memᴰ.tail m))

pub reverse_aux_mem : {A : Type 0} {k : A} (l r : List A) → Memᴰ k (reverse_aux l r) → Memᴰ k l ⊎ Memᴰ k r
reverse_aux_mem [] r m = inr m
reverse_aux_mem {A} {k} (x ∷ l) r m = go (reverse_aux_mem l (x ∷ r) m)
  where
    go : Memᴰ k l ⊎ Memᴰ k (x ∷ r) → Memᴰ k (x ∷ l) ⊎ Memᴰ k r
    go (inl n) = inl (Memᴰ.tail n)
    go (inr n) = ⊎_elim (λ e. inl (Memᴰ.head e)) (λ u. inr u) (Memᴰ.cases_cons n)

pub mem-reverse : {A : Type 0} {k : A} {l : List A} → Memᴰ k l → Memᴰ k (reverse l)
mem-reverse {l = l} m = mem_reverse_aux l [] (inl m)

pub reverse-mem : {A : Type 0} {k : A} (l : List A) → Memᴰ k (reverse l) → Memᴰ k l
reverse-mem l m = ⊎_elim (λ n. n) (λ n. absurd (Memᴰ.not-nil n)) (reverse_aux_mem l [] m)

-- a part from a up to, not including, a + n has n entries
pub part_count : (a n : ℕ) → a + n - a ≡ n
part_count a n = omega arith
