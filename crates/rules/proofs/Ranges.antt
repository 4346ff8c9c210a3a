-- What the ranges mean: each colour stands once, its first and last index are what their names say, and in every placement every cell of the
-- colour lies in its range.
use Rattle.std.specs.Prelude.{◌||◌}
use mathlib.Core.Path.{◌≡◌, refl, sym, ap, subst, ◌∙◌}
use mathlib.Core.Bool.{Bool, true, false, cond}
use mathlib.Core.Logic.{◌⊎◌, inl, inr, ◌≢◌}
use mathlib.Core.List.{List, [], ◌∷◌, ◌++◌, cons≢nil, head-eq_of_cons-eq, tail-eq_of_cons-eq}
use Prim.Native.Nat.{ℕ, zero, suc, ◌+◌, ◌-◌, ◌≤◌, ◌<◌}
use native.Mathlib.Omega.{arith}
use borrow.Author.Tests.{eq-eqb}
use lib.Dec.{eqb}
use lib.ListN.{length, get_or, replicate, length-append, length-replicate, length-map, get_or-append}
use lib.Seq.{get_or-append-add}
use Rattle.rules.specs.Block.{Block, colours_by}
use Rattle.rules.specs.Placement.{one, gap, pieces, Laid, end, blank, piece, Placement}
use Rattle.rules.specs.Packing.{total, starts_from, sums_from}
use Rattle.rules.proofs.Packings.{laid_long}
use Rattle.rules.proofs.Tests.{Compared, nat_eq_cases}
use Rattle.std.specs.List.{list_any}
use Rattle.rules.specs.Ranges.{new_of, first_of, last_of, range_start, range_end}

-- ---- first and last index

-- no earlier index has the number
pub first_least : (c : ℕ) (l : List ℕ) (k : ℕ) → k < length l → get_or l k 0 ≡ c → first_of c l ≤ k
first_least c [] k h e = absurd (omega arith)
first_least c (d ∷ l) k h e = go (nat_eq_cases d c) k h e (λ j a b. first_least c l j a b)
  where
    go : Compared d c → (k : ℕ) → k < suc (length l) → get_or (d ∷ l) k 0 ≡ c
        → ((j : ℕ) → j < length l → get_or l j 0 ≡ c → first_of c l ≤ j) → first_of c (d ∷ l) ≤ k
    go (inl p) j a b ih = rw p.1 (omega arith)
    go (inr p) zero a b ih = absurd (p.0 b)
    go (inr p) (suc j) a b ih = rw p.1 (omega (arith, ih j (omega arith) b))

last_low : (c k i : ℕ) (l : List ℕ) → k ≤ i → k ≤ last_of c k i l
last_low c k i [] h = omega arith
last_low c k i (d ∷ l) h = go (eqb d c) (λ x y. last_low c x (suc i) l y)
  where
    go : (t : Bool) → ((x : ℕ) → x ≤ suc i → x ≤ last_of c x (suc i) l) → k ≤ last_of c (cond t i k) (suc i) l
    go true ih = omega (arith, ih i (omega arith))
    go false ih = ih k (omega arith)

-- no later index has the number, and it is one of the list
pub last_most : (c k i : ℕ) (l : List ℕ) (j : ℕ) → j < length l → get_or l j 0 ≡ c → i + j ≤ last_of c k i l
last_most c k i [] j h e = absurd (omega arith)
last_most c k i (d ∷ l) zero h e =
    subst (λ (t : Bool). i + 0 ≤ last_of c (cond t i k) (suc i) l) (sym (eq-eqb d c e)) (omega (arith, last_low c i (suc i) l (omega arith)))
last_most c k i (d ∷ l) (suc j) h e = omega (arith, last_most c (cond (eqb d c) i k) (suc i) l j (omega arith) e)

last_in : (c k i : ℕ) (l : List ℕ) → (last_of c k i l ≡ k) ⊎ (last_of c k i l < i + length l)
last_in c k i [] = inl refl
last_in c k i (d ∷ l) = go (eqb d c) (last_in c (cond (eqb d c) i k) (suc i) l)
  where
    go : (t : Bool) → (last_of c (cond t i k) (suc i) l ≡ cond t i k) ⊎ (last_of c (cond t i k) (suc i) l < suc i + length l)
        → (last_of c (cond t i k) (suc i) l ≡ k) ⊎ (last_of c (cond t i k) (suc i) l < i + suc (length l))
    go true (inl e) = inr (omega arith)
    go false (inl e) = inl e
    go true (inr e) = inr (omega arith)
    go false (inr e) = inr (omega arith)

pub last_inside : (c : ℕ) (l : List ℕ) → 0 < length l → last_of c 0 0 l < length l
last_inside c l h = go (last_in c 0 0 l)
  where
    go : (last_of c 0 0 l ≡ 0) ⊎ (last_of c 0 0 l < 0 + length l) → last_of c 0 0 l < length l
    go (inl e) = omega arith
    go (inr e) = omega arith

-- ---- each once

-- what was seen before is not told again
pub new_not_seen : (c : ℕ) (seen l : List ℕ) → list_any (λ d. eqb d c) seen ≡ true → list_any (λ d. eqb d c) (new_of seen l) ≡ false
new_not_seen c seen [] e = refl
new_not_seen c seen (d ∷ l) e = go (list_any (λ x. eqb x d) seen) refl (nat_eq_cases d c) (new_not_seen c (seen ++ (d ∷ [])) l (still seen e))
  where
    still : (s : List ℕ) → list_any (λ x. eqb x c) s ≡ true → list_any (λ x. eqb x c) (s ++ (d ∷ [])) ≡ true
    still [] q = let z : ◌≡◌ {A = ℕ} 0 1 = cc in absurd (omega arith)
    still (x ∷ s) q = step (eqb x c) q (λ r. still s r)
      where
        step : (t : Bool) → (t || list_any (λ x. eqb x c) s) ≡ true
            → (list_any (λ x. eqb x c) s ≡ true → list_any (λ x. eqb x c) (s ++ (d ∷ [])) ≡ true)
            → (t || list_any (λ x. eqb x c) (s ++ (d ∷ []))) ≡ true
        step true r f = refl
        step false r f = f r

    go : (t : Bool) → list_any (λ x. eqb x d) seen ≡ t → Compared d c
        → list_any (λ x. eqb x c) (new_of (seen ++ (d ∷ [])) l) ≡ false
        → list_any (λ x. eqb x c) (cond t [] (d ∷ []) ++ new_of (seen ++ (d ∷ [])) l) ≡ false
    go true q p r = r
    go false q (inl p) r =
        let z : true ≡ false = sym e ∙ ap (λ y. list_any (λ x. eqb x y) seen) (sym p.0) ∙ q in
        let y : ◌≡◌ {A = ℕ} 0 1 = cc in absurd (omega arith)
    go false q (inr p) r = rw p.1 r

-- ---- the leftmost packing only goes on

pub starts_low : (s : ℕ) (bs : List Block) (k : ℕ) → k < length bs → s ≤ get_or (starts_from s bs) k 0
starts_low s [] k h = absurd (omega arith)
starts_low s (b ∷ bs) zero h = omega arith
starts_low s (b ∷ bs) (suc k) h = omega (arith, starts_low (s + b.size + length (gap b.colour bs)) bs k (omega arith))

pub starts_mono : (s : ℕ) (bs : List Block) (i j : ℕ) → i ≤ j → j < length bs → get_or (starts_from s bs) i 0 ≤ get_or (starts_from s bs) j 0
starts_mono s [] i j h k = absurd (omega arith)
starts_mono s (b ∷ bs) zero j h k = starts_low s (b ∷ bs) j k
starts_mono s (b ∷ bs) (suc i) zero h k = absurd (omega arith)
starts_mono s (b ∷ bs) (suc i) (suc j) h k = starts_mono (s + b.size + length (gap b.colour bs)) bs i j (omega arith) (omega arith)

sums_above : (s : ℕ) (bs : List Block) (k : ℕ) → k < length bs → s ≤ get_or (sums_from s bs) k 0
sums_above s [] k h = absurd (omega arith)
sums_above s (b ∷ bs) zero h = omega arith
sums_above s (b ∷ bs) (suc k) h = omega (arith, sums_above (s + b.size + length (gap b.colour bs)) bs k (omega arith))

sums_mono : (s : ℕ) (bs : List Block) (i j : ℕ) → i ≤ j → j < length bs → get_or (sums_from s bs) i 0 ≤ get_or (sums_from s bs) j 0
sums_mono s [] i j h k = absurd (omega arith)
sums_mono s (b ∷ bs) zero zero h k = omega arith
sums_mono s (b ∷ bs) zero (suc j) h k = omega (arith, sums_above (s + b.size + length (gap b.colour bs)) bs j (omega arith))
sums_mono s (b ∷ bs) (suc i) zero h k = absurd (omega arith)
sums_mono s (b ∷ bs) (suc i) (suc j) h k = sums_mono (s + b.size + length (gap b.colour bs)) bs i j (omega arith) (omega arith)

-- ---- a cell of a placement belongs to a block, between its leftmost place and its rightmost

record Owner (bs : List Block) (s at slack c : ℕ) : Type 0 where
  k : ℕ
  in_blocks : k < length bs
  colour_is : get_or (colours_by bs) k 0 ≡ c
  after : get_or (starts_from s bs) k 0 ≤ at
  before : at < get_or (sums_from s bs) k 0 + slack

compare : (a b : ℕ) → (a < b) ⊎ (b ≤ a)
compare zero zero = inr (omega arith)
compare zero (suc b) = inl (omega arith)
compare (suc a) zero = inr (omega arith)
compare (suc a) (suc b) = go (compare a b)
  where
    go : (a < b) ⊎ (b ≤ a) → (suc a < suc b) ⊎ (suc b ≤ suc a)
    go (inl h) = inl (omega arith)
    go (inr h) = inr (omega arith)

gap_blank : (c : ℕ) (bs : List Block) (i : ℕ) → i < length (gap c bs) → get_or (gap c bs) i 0 ≡ 1
gap_blank c [] i h = absurd (omega arith)
gap_blank c (b ∷ bs) i h = go (eqb c b.colour) i h
  where
    go : (t : Bool) (i : ℕ) → i < length (one t) → get_or (one t) i 0 ≡ 1
    go true zero q = refl
    go true (suc i) q = absurd (omega arith)
    go false i q = absurd (omega arith)

-- a cell of a piece is the block's, or the blank after it
piece_cell : (n c : ℕ) (g : List ℕ) (i : ℕ) → ((j : ℕ) → j < length g → get_or g j 0 ≡ 1) → i < length (replicate n c ++ g)
    → get_or (replicate n c ++ g) i 0 ≢ 1
    → (i < n) × (get_or (replicate n c ++ g) i 0 ≡ c)
piece_cell zero c g i b h d = absurd (d (b i h))
piece_cell (suc n) c g zero b h d = (omega arith, refl)
piece_cell (suc n) c g (suc i) b h d = let r = piece_cell n c g i b (omega arith) d in (omega (arith, r.0), r.1)

owner : {ps : List (List ℕ)} {l : List ℕ} (bs : List Block) → Laid ps l → ps ≡ pieces bs → (s p : ℕ) → p < length l → get_or l p 0 ≢ 1
    → Owner bs s (s + p) (length l - total ps) (get_or l p 0)
owner bs end e s p h d = absurd (omega arith)
owner bs (blank t) e s zero h d = absurd (d refl)
owner bs (blank {ps = ps} {l = l} t) e s (suc p) h d =
    let r = owner bs t e s p (omega arith) d in
    record {
      k = r.k;
      in_blocks = r.in_blocks;
      colour_is = r.colour_is;
      after = omega (arith, r.after);
      before = omega (arith, r.before, laid_long t);
    }
owner [] (piece t) e s p h d = absurd (cons≢nil e)
owner (b ∷ bs) (piece {p = q} {ps = ps} {l = l} t) e s p h d =
    go (compare p (length q)) (λ j x y. owner bs t (tail-eq_of_cons-eq e) (s + b.size + length (gap b.colour bs)) j x y)
  where
    q_is : q ≡ replicate b.size b.colour ++ gap b.colour bs
    q_is = head-eq_of_cons-eq e

    q_long : length q ≡ b.size + length (gap b.colour bs)
    q_long =
        ap length q_is ∙ length-append (replicate b.size b.colour) (gap b.colour bs)
        ∙ ap (λ n. n + length (gap b.colour bs)) (length-replicate b.size b.colour)

    go : (p < length q) ⊎ (length q ≤ p)
        →
        ((j : ℕ) → j < length l → get_or l j 0 ≢ 1 → Owner bs (s + b.size + length (gap b.colour bs))
        (s + b.size + length (gap b.colour bs) + j) (length l - total ps) (get_or l j 0))
        → Owner (b ∷ bs) s (s + p) (length (q ++ l) - (length q + total ps)) (get_or (q ++ l) p 0)
    go (inl u) ih =
        let front : get_or (q ++ l) p 0 ≡ get_or (replicate b.size b.colour ++ gap b.colour bs) p 0 =
        get_or-append q l 0 p u ∙ ap (λ x. get_or x p 0) q_is in
        let r =
        piece_cell b.size b.colour (gap b.colour bs) p (gap_blank b.colour bs) (omega (arith, ap length q_is))
        (λ z. d (front ∙ z)) in
        record { k = 0; in_blocks = omega arith; colour_is = sym (front ∙ r.1); after = omega arith; before = omega (arith, r.0) }
    go (inr u) ih =
        let j = p - length q in
        let there : get_or (q ++ l) p 0 ≡ get_or l j 0 = ap (λ n. get_or (q ++ l) n 0) whole ∙ get_or-append-add q l j 0 in
        let r = ih j (omega (arith, length-append q l)) (λ z. d (there ∙ z)) in
        record {
          k = suc r.k;
          in_blocks = omega (arith, r.in_blocks);
          colour_is = r.colour_is ∙ sym there;
          after = omega (arith, r.after, q_long, whole);
          before = omega (arith, r.before, q_long, whole, length-append q l);
        }
      where
        whole : p ≡ length q + (p - length q)
        whole = omega arith

-- ---- in every placement every cell of a colour lies in the colour's range

pub in_range : (bs : List Block) {n : ℕ} {l : List ℕ} → Placement bs n l → (p : ℕ) → p < n → get_or l p 0 ≢ 1
    → (range_start bs (get_or l p 0) ≤ p) × (p < range_end bs n (get_or l p 0))
in_range bs {n} {l} d p h e =
    let o = owner bs d.laid refl 0 p (omega (arith, d.long)) e in
    let cs = colours_by bs in
    let c = get_or l p 0 in
    let m = length-map bs (λ b. b.colour) in
    let f = first_least c cs o.k (omega (arith, o.in_blocks)) o.colour_is in
    let g = last_most c 0 0 cs o.k (omega (arith, o.in_blocks)) o.colour_is in
    let w = last_inside c cs (omega (arith, o.in_blocks)) in (
      omega (arith, starts_mono 0 bs (first_of c cs) o.k f o.in_blocks, o.after),
      omega (arith, sums_mono 0 bs o.k (last_of c 0 0 cs) (omega (arith, g)) (omega (arith, w, m)), o.before, d.long),
    )
