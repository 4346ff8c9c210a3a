-- The laws of colour sets.
use mathlib.Core.Path.{◌≡◌, refl, sym, ap, ◌∙◌, subst}
use mathlib.Core.Logic.{◌⊎◌, inl, inr, ◌≢◌}
use mathlib.Core.List.{List}
use Prim.Native.Nat.{ℕ, zero, suc, ◌/◌, ◌%◌, ◌^◌, ◌≤◌, ◌<◌, min, max, zero-le}
use native.Mathlib.Nat.{mod-lt, zero-lt-suc, pow-suc, mul-div_cancel, mul-mod_left, le_antisymm}
use native.Mathlib.Omega.{arith}
use lib.Arith.{digits_mod, bin_ind}
use lib.Bits.{bit_and, bit_or, or_step, and_step, or_shr, and_shr}
use lib.Count.{ones, ones_step, ones-le}
use lib.Dec.{T, T_not, not_T, eqb, eqb→eq, lit<}
use lib.ListN.{length, get_or, get_or-eq_default}
use Rattle.rules.specs.Colour.{bit, Has, Subset, Colour, can_take}
use Rattle.rules.proofs.Tests.{below?}

-- a number below 2 is 0 or 1
two : (n : ℕ) → n < 2 → (n ≡ 0) ⊎ (n ≡ 1)
two zero h = inl refl
two (suc zero) h = inr refl
two (suc (suc n)) h = absurd (omega arith)

pub bit_lt : (k s : ℕ) → bit k s < 2
bit_lt zero s = mod-lt s (zero-lt-suc 1)
bit_lt (suc k) s = bit_lt k (s / 2)

pub bit_zero : (k : ℕ) → bit k 0 ≡ 0
bit_zero zero = refl
bit_zero (suc k) = bit_zero k

pub bit_or_lem : (k s t : ℕ) → bit k (bit_or s t) ≡ max (bit k s) (bit k t)
bit_or_lem zero s t = rw or_step (digits_mod (bit_or (s / 2) (t / 2)) (omega arith))
bit_or_lem (suc k) s t = rw (or_shr s t 1) (bit_or_lem k (s / 2) (t / 2))

pub bit_and_lem : (k s t : ℕ) → bit k (bit_and s t) ≡ min (bit k s) (bit k t)
bit_and_lem zero s t = rw and_step (digits_mod (bit_and (s / 2) (t / 2)) (omega arith))
bit_and_lem (suc k) s t = rw (and_shr s t 1) (bit_and_lem k (s / 2) (t / 2))

-- two sets with the same digits are equal
pub bit_ext : (s t : ℕ) → ((k : ℕ) → bit k s ≡ bit k t) → s ≡ t
bit_ext s =
    bin_ind (λ (n : ℕ). (t : ℕ) → ((k : ℕ) → bit k n ≡ bit k t) → n ≡ t)
    (λ t h. sym (none t λ k. sym (h k) ∙ bit_zero k))
    (λ n ih t h. let e : n / 2 ≡ t / 2 = ih (t / 2) (λ k. h (suc k)) in let z : n % 2 ≡ t % 2 = h 0 in omega arith)
    s
  where
    none : (t : ℕ) → ((k : ℕ) → bit k t ≡ 0) → t ≡ 0
    none =
        bin_ind (λ (n : ℕ). ((k : ℕ) → bit k n ≡ 0) → n ≡ 0) (λ h. refl)
        (λ n ih h. let e : n / 2 ≡ 0 = ih (λ k. h (suc k)) in let z : n % 2 ≡ 0 = h 0 in omega arith)

-- ---- membership

pub has_or : (s t : ℕ) {k : ℕ} → Has (bit_or s t) k → Has s k ⊎ Has t k
has_or s t {k} h = go (two (bit k s) (bit_lt k s))
  where
    go : (bit k s ≡ 0) ⊎ (bit k s ≡ 1) → Has s k ⊎ Has t k
    go (inl e) = inr (record { on = omega (arith, bit_or_lem k s t) })
    go (inr e) = inl (record { on = e })

pub has_left : {s : ℕ} (t : ℕ) {k : ℕ} → Has s k → Has (bit_or s t) k
has_left {s} t {k} h = record { on = omega (arith, bit_or_lem k s t, bit_lt k t) }

pub has_right : (s : ℕ) {t k : ℕ} → Has t k → Has (bit_or s t) k
has_right s {t} {k} h = record { on = omega (arith, bit_or_lem k s t, bit_lt k s) }

pub has_both : {s t k : ℕ} → Has s k → Has t k → Has (bit_and s t) k
has_both {s} {t} {k} h g = record { on = omega (arith, bit_and_lem k s t) }

pub has_and_left : (s t : ℕ) {k : ℕ} → Has (bit_and s t) k → Has s k
has_and_left s t {k} h = record { on = omega (arith, bit_and_lem k s t, bit_lt k s) }

pub has_and_right : (s t : ℕ) {k : ℕ} → Has (bit_and s t) k → Has t k
has_and_right s t {k} h = record { on = omega (arith, bit_and_lem k s t, bit_lt k t) }

pub subset_le : {s t : ℕ} → Subset s t → (k : ℕ) → bit k s ≤ bit k t
subset_le {s} {t} h k = go (two (bit k s) (bit_lt k s))
  where
    go : (bit k s ≡ 0) ⊎ (bit k s ≡ 1) → bit k s ≤ bit k t
    go (inl e) = omega arith
    go (inr e) = omega (arith, h k (record { on = e }))

pub subset_refl : (s : ℕ) → Subset s s
subset_refl s k h = h

pub subset_trans : {s t u : ℕ} → Subset s t → Subset t u → Subset s u
subset_trans f g k h = g k (f k h)

pub subset_antisym : {s t : ℕ} → Subset s t → Subset t s → s ≡ t
subset_antisym {s} {t} f g = bit_ext s t λ k. le_antisymm (subset_le f k) (subset_le g k)

pub not_has_zero : {k : ℕ} → Has 0 k → ⊥
not_has_zero {k} h = omega (arith, bit_zero k)

pub has_nonzero : {s k : ℕ} → Has s k → s ≢ 0
has_nonzero {s} {k} g e = not_has_zero (subst (λ (n : ℕ). Has n k) e g)

-- a cell that has a colour is one of the list
pub has_inside : (m : List ℕ) (i k : ℕ) → Has (get_or m i 0) k → i < length m
has_inside m i k g = below? i (length m) (λ h. h) (λ h. absurd (not_has_zero (rw (get_or-eq_default m 0 {n = i} h) at g)))

pub zero_subset : (s : ℕ) → Subset 0 s
zero_subset s k h = absurd (not_has_zero h)

has_half : {s k : ℕ} → Has (s / 2) k → Has s (suc k)
has_half h = record { on = h.on }

subset_half : {s t : ℕ} → Subset s t → Subset (s / 2) (t / 2)
subset_half h k g = record { on = (h (suc k) (has_half g)).on }

-- a set that is not empty has a colour
pub some_colour : (s : ℕ) → s ≢ 0 → (k : ℕ) × Has s k
some_colour =
    bin_ind (λ (n : ℕ). n ≢ 0 → (k : ℕ) × Has n k) (λ h. absurd (h refl))
    (λ n ih h. step n ih h (two (n % 2) (bit_lt 0 n)))
  where
    step : (n : ℕ) → (n / 2 ≢ 0 → (k : ℕ) × Has (n / 2) k) → n ≢ 0 → (n % 2 ≡ 0) ⊎ (n % 2 ≡ 1) → (k : ℕ) × Has n k
    step n ih h (inl e) = let r = ih (λ z. h (omega arith)) in (suc r.0, has_half r.1)
    step n ih h (inr e) = (0, record { on = e })

-- the digits of a single colour
pub has_pow : (j : ℕ) → Has (2 ^ j) j
has_pow zero = record { on = refl }
has_pow (suc j) = record { on = rw (pow-suc, mul-div_cancel (2 ^ j) (zero-lt-suc 1)) (has_pow j).on }

pub has_pow_only : (j k : ℕ) → Has (2 ^ j) k → k ≡ j
has_pow_only zero zero h = refl
has_pow_only zero (suc k) h = absurd (omega (arith, bit_zero k, h.on))
has_pow_only (suc j) zero h = absurd (omega (arith, h.on))
has_pow_only (suc j) (suc k) h = ap suc (has_pow_only j k (record { on = rw (pow-suc, mul-div_cancel (2 ^ j) (zero-lt-suc 1)) at h.on }))

-- a cell can take the colour 2 ^ k where it has it
pub can_has : {s k : ℕ} → Has s k → T (can_take s (2 ^ k))
can_has {s} {k} h =
    not_T (eqb (bit_and s (2 ^ k)) 0)
    (λ t. not_has_zero (subst (λ (n : ℕ). Has n k) (eqb→eq (bit_and s (2 ^ k)) 0 t) (has_both h (has_pow k))))

pub has_can : (s k : ℕ) → T (can_take s (2 ^ k)) → Has s k
has_can s k t =
    let r = some_colour (bit_and s (2 ^ k)) (λ e. T_not (eqb (bit_and s (2 ^ k)) 0) t (subst (λ (n : ℕ). T (eqb n 0)) (sym e) tt)) in
    subst (λ (j : ℕ). Has s j) (has_pow_only k r.0 (has_and_right s (2 ^ k) r.1)) (has_and_left s (2 ^ k) r.1)

-- ---- the count of colours

pub ones_mono : (s t : ℕ) → Subset s t → ones s ≤ ones t
ones_mono =
    bin_ind (λ (n : ℕ). (t : ℕ) → Subset n t → ones n ≤ ones t) (λ t h. omega (arith, ones-le 0 0 (lit< tt)))
    (λ n ih t h. omega (arith, ones_step n, ones_step t, ih (t / 2) (subset_half h), subset_le h 0))

-- a smaller set is a smaller number
pub subset_num : (s t : ℕ) → Subset s t → s ≤ t
subset_num =
    bin_ind (λ (n : ℕ). (t : ℕ) → Subset n t → n ≤ t) (λ t h. zero-le)
    (λ n ih t h. omega (arith, ih (t / 2) (subset_half h), subset_le h 0))

pub ones_strict : (t s : ℕ) → Subset s t → ones t ≤ ones s → s ≡ t
ones_strict =
    bin_ind (λ (n : ℕ). (s : ℕ) → Subset s n → ones n ≤ ones s → s ≡ n) (λ s h l. subset_antisym h (zero_subset s))
    (λ n ih s h l.
    let z = subset_le h 0 in
    let m = ones_mono (s / 2) (n / 2) (subset_half h) in
    let e = ih (s / 2) (subset_half h) (omega (arith, ones_step n, ones_step s)) in
    omega (arith, ones_step n, ones_step s))

pub ones_pow : (k : ℕ) → ones (2 ^ k) ≡ 1
unfolding ones
ones_pow zero = refl
ones_pow (suc k) = ones_step (2 ^ suc k) ∙ rw (pow-suc, mul-mod_left, mul-div_cancel (2 ^ k) (zero-lt-suc 1)) (omega (arith, ones_pow k))

pub pow_subset : {s k : ℕ} → Has s k → Subset (2 ^ k) s
pow_subset {s} {k} h j g = subst (λ (n : ℕ). Has s n) (sym (has_pow_only k j g)) h

pub ones_pos : {s k : ℕ} → Has s k → 0 < ones s
ones_pos {s} {k} h = omega (arith, ones_pow k, ones_mono (2 ^ k) s (pow_subset h))

-- exactly one bit: the number is a single colour
pub one_colour : (c : ℕ) → ones c ≡ 1 → Colour c
one_colour c e =
    let r = some_colour c (λ z. omega (arith, ap ones z, ones-le 0 0 (lit< tt))) in
    (r.0, sym (ones_strict c (2 ^ r.0) (pow_subset r.1) (omega (arith, ones_pow r.0))))
