-- The loops that write the ranges: each colour once, its first and last index, by way of the packed starts and sums of all blocks.
use mathlib.Core.Path.{◌≡◌, refl, sym, ap, ap₂, subst, ◌∙◌}
use mathlib.Core.Bool.{Bool, true, false, cond}
use mathlib.Core.List.{List, [], ◌∷◌, ◌++◌, map}
use Prim.Native.Nat.{ℕ, zero, suc, ◌+◌, ◌≤◌, ◌<◌}
use native.Mathlib.Numerals.{add-one}
use native.Mathlib.Nat.{add-zero, zero-add}
use native.Mathlib.Omega.{arith}
use borrow.Author.Tests.{eq-eqb, ne_eqb}
use lib.Dec.{eqb}
use lib.ListN.{length, take, drop, get_or, drop_of_length-le, replicate}
use lib.Seq.{drop-cons, take-suc, sets, length-sets, get_or-drop}
use Rattle.std.proofs.lemmas.Bool.{or_parts}
use mathlib.Core.Logic.{◌≢◌}
use Rattle.std.specs.Prelude.{Option, None, Some}
use Rattle.std.specs.Option.{MatchOption, unwrap_or}
use Rattle.rules.proofs.Blocks.{colours_back, length_blocks}
use Rattle.rules.specs.Block.{blocks}
use Rattle.std.specs.List.{list_any}
use Rattle.rules.specs.Ranges.{new_of, first_of, last_of, range_start, range_end}
use Rattle.rules.specs.Packing.{minimal_space, sums_from, starts_from}
use Rattle.block.specs.Steps.{Packable, edges_from}
use Rattle.positions.specs.Steps.{start_in, end_in, Rangeable, Ranged, RangesFit, RangesOf}
use Rattle.loops.specs.Put.{Put}
use Rattle.loops.proofs.Going.{written_sets}
use Rattle.block.proofs.Packed.{length_edges, edges_sums, edges_starts, sums_low}

-- ---- each number once

module _ (l : List ℕ) (i : ℕ) (h : i < length l) where
  pub new_seen : list_any (λ d. eqb d (get_or l i 0)) (take i l) ≡ true → new_of (take i l) (drop i l) ≡ new_of (take (i + 1) l) (drop (i + 1) l)
  new_seen e = rw (add-one i, take-suc l i 0 h, drop-cons l i 0 h, e)

  pub new_fresh : list_any (λ d. eqb d (get_or l i 0)) (take i l) ≡ false
      → new_of (take i l) (drop i l) ≡ get_or l i 0 ∷ new_of (take (i + 1) l) (drop (i + 1) l)
  new_fresh e = rw (add-one i, take-suc l i 0 h, drop-cons l i 0 h, e)

pub new_end : (l : List ℕ) (i : ℕ) → length l ≤ i → new_of (take i l) (drop i l) ≡ []
new_end l i h = rw (drop_of_length-le l h)

-- ---- the first and the last index of a number that is met at i for the first time

first : (c : ℕ) (l : List ℕ) (i : ℕ) → i < length l → get_or l i 0 ≡ c → list_any (λ d. eqb d c) (take i l) ≡ false → first_of c l ≡ i
first c [] i h e q = absurd (omega arith)
first c (d ∷ l) zero h e q = rw (eq-eqb d c e)
first c (d ∷ l) (suc i) h e q =
    let p = or_parts (eqb d c) (list_any (λ x. eqb x c) (take i l)) q in
    rw p.0 (ap suc (first c l i (omega arith) e p.1))

pub first_here : (l : List ℕ) (i : ℕ) → i < length l → list_any (λ d. eqb d (get_or l i 0)) (take i l) ≡ false → first_of (get_or l i 0) l ≡ i
first_here l i h q = first (get_or l i 0) l i h refl q

-- the last index of a number
last_none : (c k j : ℕ) (l : List ℕ) → ((n : ℕ) → n < length l → get_or l n 0 ≢ c) → last_of c k j l ≡ k
last_none c k j [] f = refl
last_none c k j (d ∷ l) f = rw (ne_eqb d c (f 0 (omega arith))) (last_none c k (suc j) l (λ n h. f (suc n) (omega arith)))

last_some : (c k j : ℕ) (l : List ℕ) (i : ℕ) → i < length l → get_or l i 0 ≡ c → ((n : ℕ) → i + 1 ≤ n → n < length l → get_or l n 0 ≢ c)
    → last_of c k j l ≡ j + i
last_some c k j [] i h e f = absurd (omega arith)
last_some c k j (d ∷ l) zero h e f = rw (eq-eqb d c e, add-zero j) (last_none c j (suc j) l (λ n m. f (suc n) (omega arith) (omega arith)))
last_some c k j (d ∷ l) (suc i) h e f =
    last_some c (cond (eqb d c) j k) (suc j) l i (omega arith) e (λ n m o. f (suc n) (omega arith) (omega arith)) ∙ omega arith

-- what a search from the back finds
pub last_found : (c : ℕ) (l : List ℕ) (r : Option ℕ)
    → MatchOption r ((n : ℕ) → n < length l → get_or l n 0 ≢ c)
    (λ i. (i < length l) × (get_or l i 0 ≡ c) × ((n : ℕ) → i + 1 ≤ n → n < length l → get_or l n 0 ≢ c))
    → unwrap_or r 0 ≡ last_of c 0 0 l
last_found c l None f = sym (last_none c 0 0 l f)
last_found c l (Some i) f = sym (last_some c 0 0 l i f.0 f.1 f.2 ∙ zero-add i)

pub last_low : (c k j : ℕ) (l : List ℕ) → k < j + length l → last_of c k j l < j + length l
last_low c k j [] h = h
last_low c k j (d ∷ l) h = go (eqb d c) (λ m o. last_low c m (suc j) l o)
  where
    go : (t : Bool) → ((m : ℕ) → m < suc j + length l → last_of c m (suc j) l < suc j + length l)
        → last_of c (cond t j k) (suc j) l < j + suc (length l)
    go true f = omega (arith, f j (omega arith))
    go false f = omega (arith, f k (omega arith))

-- ---- starts and sums in lists of 64

pub map_same : {A : Type 0} (f g : A → ℕ) → ((a : A) → f a ≡ g a) → (l : List A) → map f l ≡ map g l
map_same f g e [] = refl
map_same f g e (a ∷ l) = ap₂ (λ x y. x ∷ y) (e a) (map_same f g e l)

zeros_at : (n k : ℕ) → ◌≡◌ {A = ℕ} (get_or (replicate n 0) k 0) 0
zeros_at zero k = refl
zeros_at (suc n) zero = refl
zeros_at (suc n) (suc k) = zeros_at n k

after : (vs zs : List ℕ) (k : ℕ) → ((j : ℕ) → get_or zs j 0 ≡ 0) → get_or (vs ++ zs) k 0 ≡ get_or vs k 0
after [] zs k z = z k
after (v ∷ vs) zs zero z = refl
after (v ∷ vs) zs (suc k) z = after vs zs k z

-- what is packed into zeros reads as the values themselves
padded : (vs : List ℕ) (k : ℕ) → length vs ≤ 64 → get_or (sets (replicate 64 0) 0 vs) k 0 ≡ get_or vs k 0
padded vs k h =
    ap (λ l. get_or l k 0) (written_sets vs (replicate 64 0) h)
    ∙ after vs (drop (length vs) (replicate 64 0)) k (λ j. get_or-drop (length vs) (replicate 64 0) j 0 ∙ zeros_at 64 (length vs + j))

module _ {slack : ℕ} {ns cs ids from to : List ℕ} (p : RangesFit ns cs slack ids from to) where
  few : length (blocks ns cs) ≤ 64
  few = omega (arith, length_blocks ns cs p.equal, p.few)

  pub zeros_room : Packable (blocks ns cs) (replicate 64 0)
  zeros_room = record { few = few; room = few }

  module _ {starts sums : List ℕ} (e : starts ≡ sets (replicate 64 0) 0 (edges_from (λ start end. start) 0 (blocks ns cs)))
      (q : sums ≡ sets (replicate 64 0) 0 (edges_from (λ start end. end) 0 (blocks ns cs))) where
    first_at : (k : ℕ) → get_or starts k 0 ≡ get_or (starts_from 0 (blocks ns cs)) k 0
    first_at k =
        ap (λ x. get_or x k 0) e
        ∙ padded (edges_from (λ start end. start) 0 (blocks ns cs)) k (omega (arith, few, length_edges (λ start end. start) 0 (blocks ns cs)))
        ∙ ap (λ x. get_or x k 0) (edges_starts 0 (blocks ns cs))

    last_at : (k : ℕ) → get_or sums k 0 ≡ get_or (sums_from 0 (blocks ns cs)) k 0
    last_at k =
        ap (λ x. get_or x k 0) q
        ∙ padded (edges_from (λ start end. end) 0 (blocks ns cs)) k (omega (arith, few, length_edges (λ start end. end) 0 (blocks ns cs)))
        ∙ ap (λ x. get_or x k 0) (edges_sums 0 (blocks ns cs))

    pub ranges_need : Rangeable cs starts sums slack ids from to
    ranges_need = record {
      all_starts = omega (arith, p.equal, p.few, ap length e, length-sets (replicate 64 0) 0 (edges_from (λ start end. start) 0 (blocks ns cs)));
      all_sums = omega (arith, p.equal, p.few, ap length q, length-sets (replicate 64 0) 0 (edges_from (λ start end. end) 0 (blocks ns cs)));
      low = λ k. omega (arith, last_at k, sums_low 0 (blocks ns cs) k, p.low);
      ids_room = p.ids_room;
      from_room = p.from_room;
      to_room = p.to_room;
    }

    start_same : (c : ℕ) → start_in cs starts c ≡ range_start (blocks ns cs) c
    start_same c = first_at (first_of c cs) ∙ ap (λ x. get_or (starts_from 0 (blocks ns cs)) (first_of c x) 0) (sym (colours_back ns cs p.equal))

    end_same : (c : ℕ) → end_in cs sums slack c ≡ range_end (blocks ns cs) (minimal_space (blocks ns cs) + slack) c
    end_same c =
        ap₂ (λ x y. x + y)
        (last_at (last_of c 0 0 cs) ∙ ap (λ x. get_or (sums_from 0 (blocks ns cs)) (last_of c 0 0 x) 0) (sym (colours_back ns cs p.equal)))
        (omega arith)

    pub ranges_of : {ids' from' to' : List ℕ} {r : ℕ} → Ranged cs starts sums slack ids from to r ids' from' to'
        → RangesOf (blocks ns cs) slack ids from to r ids' from' to'
    ranges_of {ids'} {r = r} t =
        let cc' = sym (colours_back ns cs p.equal) in
        let bs = blocks ns cs in
        record {
          colour_list = subst (λ (x : List ℕ). Put ids 0 (new_of [] x) r ids') cc' t.colour_list;
          from_list =
              t.from_list
              ∙ ap (λ x. sets from 0 x)
              (map_same (start_in cs starts) (range_start bs) start_same (new_of [] cs) ∙ ap (λ x. map (range_start bs) (new_of [] x)) cc');
          to_list =
              t.to_list
              ∙ ap (λ x. sets to 0 x) (map_same (end_in cs sums slack) (range_end bs (minimal_space bs + slack)) end_same (new_of [] cs)
              ∙ ap (λ x. map (range_end bs (minimal_space bs + slack)) (new_of [] x)) cc');
        }

pub length_new : (seen l : List ℕ) → length (new_of seen l) ≤ length l
length_new seen [] = omega arith
length_new seen (c ∷ l) = go (list_any (λ d. eqb d c) seen) (length_new (seen ++ (c ∷ [])) l)
  where
    go : (t : Bool) → length (new_of (seen ++ (c ∷ [])) l) ≤ length l → length (cond t [] (c ∷ []) ++ new_of (seen ++ (c ∷ [])) l) ≤ suc (length l)
    go true h = omega arith
    go false h = omega arith
