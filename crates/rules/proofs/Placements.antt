-- The enumeration has the placements and nothing else.
use mathlib.Core.Path.{refl, sym, ap, subst}
use mathlib.Core.Bool.{Bool, true, false}
use mathlib.Core.Logic.{◌⊎◌, inl, inr, ⊎_elim, ◌↔◌}
use mathlib.Core.List.Memᴰ
use mathlib.Core.List.{List, [], ◌∷◌, ◌++◌, append_assoc, append-nil, map, Memᴰ}
use Prim.Native.Nat.{ℕ, zero, suc, ◌-◌, ◌≤◌}
use native.Mathlib.Omega.{arith}
use lib.Dec.{T, eqb, leb, leb→le, le→leb}
use lib.ListN.{length, replicate, length-append, length-replicate}
use Rattle.rules.specs.Colour.{Colour}
use Rattle.rules.specs.Block.{Block, Legal, legal_none, legal_block}
use Rattle.rules.specs.Placement.{gap, one, pieces, Laid, end, blank, piece, Lay, Placement, here, slide, lays, placements}
use Rattle.rules.specs.Answer.{Proper}
use Rattle.rules.proofs.Lists.{mem-map, map-mem}

blanks : (n : ℕ) → Laid [] (replicate n 1)
blanks zero = end
blanks (suc n) = blank (blanks n)

module _ (p : List ℕ) (ps : List (List ℕ)) (below : (n : ℕ) (l : List ℕ) → Memᴰ l (lays ps n) → Lay ps n l) where
  here_sound : (b : Bool) (n : ℕ) (l : List ℕ) → (T b → length p ≤ n) → Memᴰ l (here p (lays ps) b n) → Lay (p ∷ ps) n l
  here_sound true n l h m =
      let r = map-mem (λ t. p ++ t) (lays ps (n - length p)) m in
      let d = below (n - length p) r.0 r.1 in
      let k = h tt in
      subst (λ t. Lay (p ∷ ps) n t) (sym r.2) (record { laid = piece d.laid; long = omega (arith, length-append p r.0, d.long) })
  here_sound false n l h m = absurd (Memᴰ.not-nil m)

  slide_sound : (n : ℕ) (l : List ℕ) → Memᴰ l (slide p (lays ps) n) → Lay (p ∷ ps) n l
  slide_sound zero l m = here_sound (leb (length p) zero) zero l (leb→le (length p) zero) m
  slide_sound (suc n) l m = go (slide_sound n) (Memᴰ.append_cases (here p (lays ps) (leb (length p) (suc n)) (suc n)) m)
    where
      go : ((t : List ℕ) → Memᴰ t (slide p (lays ps) n) → Lay (p ∷ ps) n t)
          → Memᴰ l (here p (lays ps) (leb (length p) (suc n)) (suc n)) ⊎ Memᴰ l (map (λ t. 1 ∷ t) (slide p (lays ps) n))
          → Lay (p ∷ ps) (suc n) l
      go up (inl x) = here_sound (leb (length p) (suc n)) (suc n) l (leb→le (length p) (suc n)) x
      go up (inr x) =
          let r = map-mem (λ t. 1 ∷ t) (slide p (lays ps) n) x in
          let d = up r.0 r.1 in
          subst (λ t. Lay (p ∷ ps) (suc n) t) (sym r.2) (record { laid = blank d.laid; long = ap suc d.long })

pub lays_sound : (ps : List (List ℕ)) (n : ℕ) (l : List ℕ) → Memᴰ l (lays ps n) → Lay ps n l
lays_sound [] n l m = subst (λ t. Lay [] n t) (sym (Memᴰ.eq_of_singleton m)) (record { laid = blanks n; long = length-replicate n 1 })
lays_sound (p ∷ ps) n l m = slide_sound p ps (lays_sound ps) n l m

-- a piece that fits is laid at the left end
here_in : (p : List ℕ) (rest : ℕ → List (List ℕ)) (b : Bool) (n : ℕ) (l : List ℕ) → T b → Memᴰ l (rest (n - length p))
    → Memᴰ (p ++ l) (here p rest b n)
here_in p rest true n l t m = mem-map (λ x. p ++ x) m
here_in p rest false n l t m = absurd t

slide_in : (p : List ℕ) (rest : ℕ → List (List ℕ)) (n : ℕ) (l : List ℕ) → Memᴰ l (here p rest (leb (length p) n) n)
    → Memᴰ l (slide p rest n)
slide_in p rest zero l m = m
slide_in p rest (suc n) l m = Memᴰ.append_left (map (λ x. 1 ∷ x) (slide p rest n)) m

here_whole : (p : List ℕ) (ps : List (List ℕ)) (l : List ℕ) → Memᴰ l (lays ps (length l))
    → Memᴰ (p ++ l) (slide p (lays ps) (length (p ++ l)))
here_whole p ps l m =
    let e = length-append p l in
    slide_in p (lays ps) (length (p ++ l)) (p ++ l)
    (here_in p (lays ps) (leb (length p) (length (p ++ l))) (length (p ++ l)) l (le→leb (length p) (length (p ++ l)) (omega arith))
    (subst (λ (n : ℕ). Memᴰ l (lays ps n)) (omega arith) m))

blank_in : (ps : List (List ℕ)) (n : ℕ) (l : List ℕ) → Memᴰ l (lays ps n) → Memᴰ (1 ∷ l) (lays ps (suc n))
blank_in [] n l m = Memᴰ.head (ap (λ (t : List ℕ). 1 ∷ t) (Memᴰ.eq_of_singleton m))
blank_in (p ∷ ps) n l m = Memᴰ.append_right (here p (lays ps) (leb (length p) (suc n)) (suc n)) (mem-map (λ x. 1 ∷ x) m)

pub lays_whole : {ps : List (List ℕ)} {l : List ℕ} → Laid ps l → Memᴰ l (lays ps (length l))
lays_whole end = Memᴰ.head refl
lays_whole (blank {ps = ps} {l = l} d) = blank_in ps (length l) l (lays_whole d)
lays_whole (piece {p = p} {ps = ps} {l = l} d) = here_whole p ps l (lays_whole d)

pub lays_exact : (ps : List (List ℕ)) (n : ℕ) (l : List ℕ) → Memᴰ l (lays ps n) ↔ Lay ps n l
lays_exact ps n l = (lays_sound ps n l, λ r. subst (λ (k : ℕ). Memᴰ l (lays ps k)) r.long (lays_whole r.laid))

pub placements_exact : (bs : List Block) (n : ℕ) (l : List ℕ) → Memᴰ l (placements bs n) ↔ Placement bs n l
placements_exact bs n l = lays_exact (pieces bs) n l

-- ---- the placements of legal blocks have one colour in each cell

pub proper_append : (p q : List ℕ) → Proper p → Proper q → Proper (p ++ q)
proper_append [] q a b = b
proper_append (c ∷ p) q a b = (a.0, proper_append p q a.1 b)

pub proper_replicate : (n c : ℕ) → Colour c → Proper (replicate n c)
proper_replicate zero c o = tt
proper_replicate (suc n) c o = (o, proper_replicate n c o)

blank_colour : Colour 1
blank_colour = (0, refl)

pub proper_gap : (c : ℕ) (bs : List Block) → Proper (gap c bs)
proper_gap c [] = tt
proper_gap c (b ∷ bs) = go (eqb c b.colour)
  where
    go : (t : Bool) → Proper (one t)
    go true = (blank_colour, tt)
    go false = tt

pub laid_proper : {ps : List (List ℕ)} {l : List ℕ} → ((p : List ℕ) → Memᴰ p ps → Proper p) → Laid ps l → Proper l
laid_proper o end = tt
laid_proper o (blank d) = (blank_colour, laid_proper o d)
laid_proper o (piece {p = p} {l = l} d) = proper_append p l (o p (Memᴰ.head refl)) (laid_proper (λ q m. o q (Memᴰ.tail m)) d)

pieces_proper : {bs : List Block} → Legal bs → (p : List ℕ) → Memᴰ p (pieces bs) → Proper p
pieces_proper legal_none p m = absurd (Memᴰ.not-nil m)
pieces_proper (legal_block {b = b} {bs = bs} s c d o) p m =
    ⊎_elim
    (λ e. subst Proper (sym e)
    (proper_append (replicate b.size b.colour) (gap b.colour bs) (proper_replicate b.size b.colour c)
    (proper_gap b.colour bs)))
    (pieces_proper o p) (Memᴰ.cases_cons m)

pub placement_proper : {bs : List Block} {n : ℕ} → Legal bs → (l : List ℕ) → Placement bs n l → Proper l
placement_proper o l d = laid_proper (pieces_proper o) d.laid

-- ---- a line that grows on the right

pub blank_end : {ps : List (List ℕ)} {l : List ℕ} → Laid ps l → Laid ps (l ++ (1 ∷ []))
blank_end end = blank end
blank_end (blank d) = blank (blank_end d)
blank_end (piece {p = p} {ps = ps} {l = l} d) = rw append_assoc (piece (blank_end d))

pub piece_end : {ps : List (List ℕ)} {l : List ℕ} (q : List ℕ) → Laid ps l → Laid (ps ++ (q ∷ [])) (l ++ q)
piece_end q end = subst (Laid (q ∷ [])) (append-nil q) (piece end)
piece_end q (blank d) = blank (piece_end q d)
piece_end q (piece {p = p} {ps = ps} {l = l} d) = rw append_assoc (piece (piece_end q d))
