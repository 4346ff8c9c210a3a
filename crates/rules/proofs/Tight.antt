-- The range of a colour is no wider than it need be: some placement gives its first cell the colour, and some its last.
use mathlib.Core.Path.{◌≡◌, refl, sym, ap, ◌∙◌, subst}
use mathlib.Core.Bool.{Bool, true, false, cond}
use mathlib.Core.Logic.{◌⊎◌, inl, inr, ◌≢◌}
use mathlib.Core.List.{List, [], ◌∷◌, ◌++◌}
use Prim.Native.Nat.{ℕ, zero, suc, ◌+◌, ◌-◌, ◌≤◌, ◌<◌}
use native.Mathlib.Omega.{arith}
use borrow.Author.Tests.{eqb-true}
use lib.Dec.{eqb}
use lib.ListN.{length, get_or, replicate, length-append, length-replicate, length-map, get_or-append, get_or-eq_default}
use lib.Seq.{get_or-append-add}
use Rattle.rules.specs.Block.{Block, Legal, legal_none, legal_block, sizes_by, colours_by}
use Rattle.rules.specs.Placement.{gap, pieces, Laid, end, blank, piece, Placement}
use Rattle.rules.specs.Packing.{total, minimal_space, starts_from, sums_from}
use Rattle.std.specs.List.{list_any}
use Rattle.rules.specs.Ranges.{new_of, first_of, last_of, range_start, range_end, RangeOf}
use Rattle.rules.proofs.Packings.{blank_line}
use Rattle.rules.proofs.Ranges.{starts_low, starts_mono, first_least, last_most, last_inside, in_range}
use Rattle.rules.proofs.Tests.{Compared, nat_eq_cases, below?}

-- ---- the blocks packed to the left, and the same with all blanks before them

-- the pieces one after the other, and then the cells r
abbrev packed : List (List ℕ) → List ℕ → List ℕ
packed [] r = r
packed (p ∷ ps) r = p ++ packed ps r

length_packed : (ps : List (List ℕ)) (r : List ℕ) → length (packed ps r) ≡ total ps + length r
length_packed [] r = omega arith
length_packed (p ∷ ps) r = omega (arith, length-append p (packed ps r), length_packed ps r)

packed_laid : (ps : List (List ℕ)) {r : List ℕ} → Laid [] r → Laid ps (packed ps r)
packed_laid [] d = d
packed_laid (p ∷ ps) d = piece (packed_laid ps d)

-- n blanks before a line
after_blanks : {ps : List (List ℕ)} {l : List ℕ} (n : ℕ) → Laid ps l → Laid ps (replicate n 1 ++ l)
after_blanks zero d = d
after_blanks (suc n) d = blank (after_blanks n d)

module _ (bs : List Block) (n : ℕ) (fits : minimal_space bs ≤ n) where
  leftmost : Placement bs n (packed (pieces bs) (replicate (n - minimal_space bs) 1))
  leftmost = record {
    laid = packed_laid (pieces bs) (blank_line (n - minimal_space bs)).laid;
    long =
        length_packed (pieces bs) (replicate (n - minimal_space bs) 1)
        ∙ omega (arith, length-replicate {A = ℕ} (n - minimal_space bs) 1);
  }

  rightmost : Placement bs n (replicate (n - minimal_space bs) 1 ++ packed (pieces bs) [])
  rightmost = record {
    laid = after_blanks (n - minimal_space bs) (packed_laid (pieces bs) end);
    long =
        length-append (replicate (n - minimal_space bs) 1) (packed (pieces bs) [])
        ∙ omega (arith, length-replicate {A = ℕ} (n - minimal_space bs) 1, length_packed (pieces bs) []);
  }

-- ---- the cells of a packed block

replicate_at : (n c j : ℕ) → j < n → get_or (replicate n c) j 0 ≡ c
replicate_at zero c j h = absurd (omega arith)
replicate_at (suc n) c zero h = refl
replicate_at (suc n) c (suc j) h = replicate_at n c j (omega arith)

-- cell j of block k, where the packing begins at cell s: it is cell t of what is packed
packed_cell : (bs : List Block) (r : List ℕ) (s k j t : ℕ) → k < length bs → j < get_or (sizes_by bs) k 0 → s + t ≡ get_or (starts_from s bs) k 0 + j
    → get_or (packed (pieces bs) r) t 0 ≡ get_or (colours_by bs) k 0
packed_cell [] r s k j t h i e = absurd (omega arith)
packed_cell (b ∷ bs) r s zero j t h i e =
    let q = replicate b.size b.colour ++ gap b.colour bs in
    let m = length-append (replicate b.size b.colour) (gap b.colour bs) in
    let n = length-replicate b.size b.colour in
    get_or-append q (packed (pieces bs) r) 0 t (omega arith)
    ∙ get_or-append (replicate b.size b.colour) (gap b.colour bs) 0 t (omega arith)
    ∙ replicate_at b.size b.colour t (omega arith)
packed_cell (b ∷ bs) r s (suc k) j t h i e =
    ap (λ x. get_or (q ++ packed (pieces bs) r) x 0) whole
    ∙ get_or-append-add q (packed (pieces bs) r) (t - length q) 0
    ∙ packed_cell bs r (s + b.size + length (gap b.colour bs)) k j (t - length q) (omega arith) i (omega (arith, q_long, whole))
  where
    q : List ℕ
    q = replicate b.size b.colour ++ gap b.colour bs

    q_long : length q ≡ b.size + length (gap b.colour bs)
    q_long =
        length-append (replicate b.size b.colour) (gap b.colour bs)
        ∙ ap (λ x. x + length (gap b.colour bs)) (length-replicate b.size b.colour)

    whole : t ≡ length q + (t - length q)
    whole = omega (arith, q_long, starts_low (s + b.size + length (gap b.colour bs)) bs k (omega arith))

sums_are : (s : ℕ) (bs : List Block) (k : ℕ) → k < length bs
    → get_or (sums_from s bs) k 0 ≡ get_or (starts_from s bs) k 0 + get_or (sizes_by bs) k 0
sums_are s [] k h = absurd (omega arith)
sums_are s (b ∷ bs) zero h = refl
sums_are s (b ∷ bs) (suc k) h = sums_are (s + b.size + length (gap b.colour bs)) bs k (omega arith)

legal_size : {bs : List Block} → Legal bs → (k : ℕ) → k < length bs → 0 < get_or (sizes_by bs) k 0
legal_size legal_none k h = absurd (omega arith)
legal_size (legal_block s c d o) zero h = s
legal_size (legal_block s c d o) (suc k) h = legal_size o k (omega arith)

legal_shown : {bs : List Block} → Legal bs → (k : ℕ) → k < length bs → get_or (colours_by bs) k 0 ≢ 1
legal_shown legal_none k h = absurd (omega arith)
legal_shown (legal_block s c d o) zero h = d
legal_shown (legal_block s c d o) (suc k) h = legal_shown o k (omega arith)

-- ---- first and last index are indexes of the number

first_is : (c : ℕ) (l : List ℕ) (k : ℕ) → k < length l → get_or l k 0 ≡ c → get_or l (first_of c l) 0 ≡ c
first_is c [] k h e = absurd (omega arith)
first_is c (d ∷ l) k h e = go (nat_eq_cases d c) k h e (λ j a b. first_is c l j a b)
  where
    go : Compared d c → (k : ℕ) → k < suc (length l) → get_or (d ∷ l) k 0 ≡ c
        → ((j : ℕ) → j < length l → get_or l j 0 ≡ c → get_or l (first_of c l) 0 ≡ c) → get_or (d ∷ l) (first_of c (d ∷ l)) 0 ≡ c
    go (inl p) j a b ih = rw p.1 p.0
    go (inr p) zero a b ih = absurd (p.0 b)
    go (inr p) (suc j) a b ih = rw p.1 (ih j (omega arith) b)

last_found : (c k i : ℕ) (l : List ℕ)
    → (last_of c k i l ≡ k) ⊎ ((j : ℕ) × (j < length l) × (get_or l j 0 ≡ c) × (last_of c k i l ≡ i + j))
last_found c k i [] = inl refl
last_found c k i (d ∷ l) = go (eqb d c) (eqb-true d c) (last_found c (cond (eqb d c) i k) (suc i) l)
  where
    go : (t : Bool) → (t ≡ true → d ≡ c)
        → (last_of c (cond t i k) (suc i) l ≡ cond t i k) ⊎ ((j : ℕ) × (j < length l) × (get_or l j 0 ≡ c) × (last_of c (cond t i k) (suc i) l ≡ suc i + j))
        → (last_of c (cond t i k) (suc i) l ≡ k)
        ⊎ ((j : ℕ) × (j < suc (length l)) × (get_or (d ∷ l) j 0 ≡ c) × (last_of c (cond t i k) (suc i) l ≡ i + j))
    go true q (inl e) = inr (0, omega arith, q refl, omega arith)
    go false q (inl e) = inl e
    go true q (inr (j, h, e, m)) = inr (suc j, omega arith, e, omega arith)
    go false q (inr (j, h, e, m)) = inr (suc j, omega arith, e, omega arith)

last_is : (c : ℕ) (l : List ℕ) (k : ℕ) → k < length l → get_or l k 0 ≡ c → get_or l (last_of c 0 0 l) 0 ≡ c
last_is c l k h e = go (last_found c 0 0 l)
  where
    go : (last_of c 0 0 l ≡ 0) ⊎ ((j : ℕ) × (j < length l) × (get_or l j 0 ≡ c) × (last_of c 0 0 l ≡ 0 + j)) → get_or l (last_of c 0 0 l) 0 ≡ c
    go (inl q) = ap (λ x. get_or l x 0) (let z : last_of c 0 0 l ≡ k = omega (arith, last_most c 0 0 l k h e) in z) ∙ e
    go (inr (j, a, q, m)) = ap (λ x. get_or l x 0) (let z : last_of c 0 0 l ≡ j = omega arith in z) ∙ q

-- ---- both ends are taken

module _ (bs : List Block) (n c k : ℕ) (legal : Legal bs) (fits : minimal_space bs ≤ n) (h : k < length bs) (e : get_or (colours_by bs) k 0 ≡ c) where
  cs_long : length (colours_by bs) ≡ length bs
  cs_long = length-map bs (λ b. b.colour)

  abbrev first : ℕ
  first = first_of c (colours_by bs)

  abbrev last : ℕ
  last = last_of c 0 0 (colours_by bs)

  first_in : first < length bs
  first_in = omega (arith, first_least c (colours_by bs) k (omega (arith, cs_long)) e)

  last_in_blocks : last < length bs
  last_in_blocks = omega (arith, cs_long, last_inside c (colours_by bs) (omega (arith, cs_long)))

  first_colour : get_or (colours_by bs) first 0 ≡ c
  first_colour = first_is c (colours_by bs) k (omega (arith, cs_long)) e

  last_colour : get_or (colours_by bs) last 0 ≡ c
  last_colour = last_is c (colours_by bs) k (omega (arith, cs_long)) e

  abbrev slack : ℕ
  slack = n - minimal_space bs

  -- the last cell of the colour's last block, packed to the left
  abbrev end_cell : ℕ
  end_cell = get_or (starts_from 0 bs) last 0 + (get_or (sizes_by bs) last 0 - 1)

  last_cell : range_end bs n c - 1 ≡ length {A = ℕ} (replicate slack 1) + end_cell
  last_cell = omega (arith, sums_are 0 bs last last_in_blocks, legal_size legal last last_in_blocks, length-replicate {A = ℕ} slack 1)

  pub range_exact : RangeOf bs n c (range_start bs c) (range_end bs n c)
  range_exact = record {
    some =
        omega (
          arith,
          sums_are 0 bs last last_in_blocks,
          legal_size legal last last_in_blocks,
          starts_mono 0 bs first last (first_least c (colours_by bs) last (omega (arith, cs_long, last_in_blocks)) last_colour) last_in_blocks,
        );
    first = (
      packed (pieces bs) (replicate slack 1),
      leftmost bs n fits,
      packed_cell bs (replicate slack 1) 0 first 0 (range_start bs c) first_in (legal_size legal first first_in) (omega arith) ∙ first_colour,
    );
    last = (
      replicate slack 1 ++ packed (pieces bs) [],
      rightmost bs n fits,
      ap (λ x. get_or (replicate slack 1 ++ packed (pieces bs) []) x 0) last_cell
          ∙ get_or-append-add (replicate slack 1) (packed (pieces bs) []) end_cell 0
          ∙ packed_cell bs [] 0 last (get_or (sizes_by bs) last 0 - 1) end_cell last_in_blocks
          (omega (arith, legal_size legal last last_in_blocks)) (omega arith)
          ∙ last_colour,
    );
    only = λ l d p q u.
        let r = in_range bs d p q (λ z. legal_shown legal k h (e ∙ sym u ∙ z)) in
        (subst (λ (x : ℕ). range_start bs x ≤ p) u r.0, subst (λ (x : ℕ). p < range_end bs n x) u r.1);
  }

-- the two numbers of a range are the only ones
pub range_one : {bs : List Block} {n c a b a' b' : ℕ} → c ≢ 0 → RangeOf bs n c a b → RangeOf bs n c a' b' → (a ≡ a') × (b ≡ b')
range_one {bs} {n} {c} d p q = (omega (arith, low p q, low q p), omega (arith, high p q, high q p, p.some, q.some))
  where
    shown_in : (l : List ℕ) (i : ℕ) → Placement bs n l → get_or l i 0 ≡ c → i < n
    shown_in l i u e = below? i n (λ x. x) (λ x. absurd (d (sym e ∙ get_or-eq_default l 0 {n = i} (omega (arith, u.long)))))

    low : {a b a' b' : ℕ} → RangeOf bs n c a b → RangeOf bs n c a' b' → a ≤ a'
    low {a' = a'} x y = let f = y.first in (x.only f.0 f.1 a' (shown_in f.0 a' f.1 f.2) f.2).0

    high : {a b a' b' : ℕ} → RangeOf bs n c a b → RangeOf bs n c a' b' → b' - 1 < b
    high {b' = b'} x y = let f = y.last in (x.only f.0 f.1 (b' - 1) (shown_in f.0 (b' - 1) f.1 f.2) f.2).1

-- ---- the colours of the ranges are those of the blocks

pub new_from : (seen l : List ℕ) (i : ℕ) → i < length (new_of seen l) → (k : ℕ) × (k < length l) × (get_or l k 0 ≡ get_or (new_of seen l) i 0)
new_from seen [] i h = absurd (omega arith)
new_from seen (c ∷ l) i h = go (list_any (λ d. eqb d c) seen) i h (λ j u. new_from (seen ++ (c ∷ [])) l j u)
  where
    go : (t : Bool) (i : ℕ) → i < length (cond t [] (c ∷ []) ++ new_of (seen ++ (c ∷ [])) l)
        → ((j : ℕ) → j < length (new_of (seen ++ (c ∷ [])) l) → (k : ℕ) × (k < length l) × (get_or l k 0 ≡ get_or (new_of (seen ++ (c ∷ [])) l) j 0))
        → (k : ℕ) × (k < suc (length l)) × (get_or (c ∷ l) k 0 ≡ get_or (cond t [] (c ∷ []) ++ new_of (seen ++ (c ∷ [])) l) i 0)
    go true j u up = let r = up j u in (suc r.0, omega (arith, r.1), r.2)
    go false zero u up = (0, omega arith, refl)
    go false (suc j) u up = let r = up j (omega arith) in (suc r.0, omega (arith, r.1), r.2)
