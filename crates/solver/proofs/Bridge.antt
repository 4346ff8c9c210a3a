-- Fillings are the paper's placements: one that shows a line's blocks is a list in which their pieces are laid, and back.
use mathlib.Core.Path.{◌≡◌, refl, sym, ap, ap₂, ◌∙◌, subst, fun_ext}
use mathlib.Core.List.{List, [], ◌∷◌, ◌++◌}
use Prim.Native.Nat.{ℕ, zero, suc, ◌+◌, ◌-◌, ◌≤◌, ◌<◌}
use native.Mathlib.Nat.{add-zero, zero-add, not-suc-le-zero, le_of_suc-le-suc}
use native.Mathlib.Numerals.{add-one}
use native.Mathlib.Decide.{dec_lt}
use native.Mathlib.Omega.{arith}
use lib.Dec.{T}
use lib.ListN.{length, get_or, take, drop, replicate, length-replicate, get_or-replicate, length-append, get_or-append, length-drop}
use lib.Seq.{take-suc, drop-cons, take_all, get_or-append-add}
use Rattle.rules.specs.Colour.{can_take}
use Rattle.rules.specs.Placement.{Laid, end, blank, piece, Lay}
use Rattle.rules.specs.Answer.{agrees, Fitting}
use Rattle.rules.specs.Board.{tabulate}
use Rattle.rules.proofs.Lists.{T_both, T_left, T_right}
use Rattle.rules.proofs.Placements.{blank_end, piece_end}
use Rattle.rules.proofs.Boards.{length_tabulate, get_d_tabulate}
use Rattle.filling.specs.Filling.{Line, gap_after, BlockAt, Shows, edge, AgreesTo, Solution}
use Rattle.filling.specs.Filling.{blank as blankAt, block as block_at}

-- ---- agreeing, cell by cell

agrees_takes : (l p : List ℕ) → T (agrees l p) → (i : ℕ) → i < length l → T (can_take (get_or l i 0) (get_or p i 0))
agrees_takes [] p t i h = absurd (not-suc-le-zero h)
agrees_takes (s ∷ l) [] t i h = absurd t
agrees_takes (s ∷ l) (c ∷ p) t zero h = T_left (can_take s c) (agrees l p) t
agrees_takes (s ∷ l) (c ∷ p) t (suc i) h = agrees_takes l p (T_right (can_take s c) (agrees l p) t) i (le_of_suc-le-suc h)

takes_agrees : (l p : List ℕ) → length p ≡ length l → ((i : ℕ) → i < length l → T (can_take (get_or l i 0) (get_or p i 0))) → T (agrees l p)
takes_agrees [] [] e f = tt
takes_agrees [] (c ∷ p) e f = omega arith
takes_agrees (s ∷ l) [] e f = omega arith
takes_agrees (s ∷ l) (c ∷ p) e f =
    T_both (can_take s c) (agrees l p) (f 0 (omega arith)) (takes_agrees l p (omega arith) (λ i h. f (suc i) (omega arith)))

-- ---- a filling as a list

tabulate_add : (p n : ℕ) (f : ℕ → ℕ) → tabulate (p + n) f ≡ tabulate p f ++ tabulate n (λ i. f (p + i))
tabulate_add zero n f = rw zero-add (ap (λ (g : ℕ → ℕ). tabulate n g) (fun_ext (λ i. ap f (sym (zero-add i)))))
tabulate_add (suc p) n f =
    let e : suc p + n ≡ suc (p + n) = omega arith in
    rw e (ap (λ (l : List ℕ). f 0 ∷ l) (tabulate_add p n (λ i. f (suc i))
    ∙ ap (λ (g : ℕ → ℕ). tabulate p (λ i. f (suc i)) ++ tabulate n g) (fun_ext (λ i. ap f (let q : suc (p + i) ≡ suc p + i = omega arith in q)))))

tabulate_same : (n c : ℕ) (f : ℕ → ℕ) → ((i : ℕ) → i < n → f i ≡ c) → tabulate n f ≡ replicate n c
tabulate_same zero c f h = refl
tabulate_same (suc n) c f h = ap₂ (λ (a : ℕ) (l : List ℕ). a ∷ l) (h 0 (omega arith))
    (tabulate_same n c (λ i. f (suc i)) (λ i k. h (suc i) (omega arith)))

-- ---- pieces by their numbers

-- block b as its cells, with the blank that must follow it
abbrev pub piece_at : Line → ℕ → List ℕ
piece_at L b = replicate (L.size b) (L.colour b) ++ replicate (gap_after L b) 1

-- the pieces are those of the line's blocks
pub record PiecesOf (L : Line) (ps : List (List ℕ)) : Type 0 where
  pub many : length ps ≡ L.count
  pub each : (b : ℕ) → b < L.count → get_or ps b [] ≡ piece_at L b

length_piece : (L : Line) (b : ℕ) → length (piece_at L b) ≡ L.size b + gap_after L b
length_piece L b =
    length-append (replicate (L.size b) (L.colour b)) (replicate (gap_after L b) 1)
    ∙ ap₂ (λ (x y : ℕ). x + y) (length-replicate (L.size b) (L.colour b)) (length-replicate {A = ℕ} (gap_after L b) 1)

module _ {L : Line} {ps : List (List ℕ)} (P : PiecesOf L ps) where
  -- what f shows of a block is its piece
  block_piece : {f : ℕ → ℕ} {b p q : ℕ} → BlockAt L f b p q → tabulate q f ≡ tabulate p f ++ piece_at L b
  block_piece {f} {b} {p} {q} B =
      let n = L.size b in
      let g = gap_after L b in
      let e : q ≡ p + (n + g) = omega (arith, B.ends) in
      ap (λ (k : ℕ). tabulate k f) e
      ∙ tabulate_add p (n + g) f
      ∙ ap (λ (t : List ℕ). tabulate p f ++ t)
      (tabulate_add n g (λ i. f (p + i))
      ∙ ap₂ (λ (s t : List ℕ). s ++ t)
      (tabulate_same n (L.colour b) (λ i. f (p + i)) (λ i h. B.inside (p + i) (omega arith) (omega arith)))
      (tabulate_same g 1 (λ i. f (p + (n + i))) (λ i h. B.after (p + (n + i)) (omega arith) (omega (arith, e)))))

  -- a filling that shows the blocks is a list that is laid
  shows_laid : {f : ℕ → ℕ} {p b : ℕ} → Shows L f p b → Laid (take b ps) (tabulate p f)
  shows_laid edge = end
  shows_laid {f} (blankAt {p} {q} {b} s e o) =
      let t : tabulate q f ≡ tabulate p f ++ (1 ∷ []) =
      ap (λ (k : ℕ). tabulate k f) e ∙ tabulate_add p 1 f ∙ ap (λ (a : ℕ). tabulate p f ++ (a ∷ [])) (ap f (add-zero p) ∙ o) in
      rw t (blank_end (shows_laid s))
  shows_laid {f} (block_at {p} {q} {b} {c} s e B) =
      let t : take c ps ≡ take b ps ++ (piece_at L b ∷ []) =
      ap (λ (k : ℕ). take k ps) (e ∙ add-one b) ∙ take-suc ps b [] (omega (arith, B.within, P.many))
      ∙ ap (λ (z : List ℕ). take b ps ++ (z ∷ [])) (P.each b B.within) in
      rw (t, block_piece B) (piece_end (piece_at L b) (shows_laid s))

  -- a list that is laid is a filling that shows the blocks: first one piece of it
  piece_block : {f : ℕ → ℕ} (b p : ℕ) (l : List ℕ) → b < L.count
      → ((i : ℕ) → i < length (piece_at L b ++ l) → f (p + i) ≡ get_or (piece_at L b ++ l) i 0)
      → BlockAt L f b p (p + length (piece_at L b))
  piece_block {f} b p l h r = record {
    within = h;
    ends = omega (arith, length_piece L b);
    inside = λ i u v. at i u (omega (arith, length_piece L b)) ∙ inner (i - p) (omega arith);
    after = λ i u v. at i (omega arith) (omega (arith, length_piece L b)) ∙ outer i u v;
  }
    where
      n : ℕ
      n = L.size b

      c : ℕ
      c = L.colour b

      g : ℕ
      g = gap_after L b

      at : (i : ℕ) → p ≤ i → i < p + length (piece_at L b) → f i ≡ get_or (piece_at L b) (i - p) 0
      at i u v =
          let e : p + (i - p) ≡ i = omega arith in
          sym (ap f e) ∙ r (i - p) (omega (arith, length-append (piece_at L b) l)) ∙ get_or-append (piece_at L b) l 0 (i - p) (omega arith)

      inner : (i : ℕ) → i < n → get_or (piece_at L b) i 0 ≡ c
      inner i v = get_or-append (replicate n c) (replicate g 1) 0 i (omega (arith, length-replicate n c)) ∙ get_or-replicate n i c 0 v

      outer : (i : ℕ) → p + n ≤ i → i < p + length (piece_at L b) → get_or (piece_at L b) (i - p) 0 ≡ 1
      outer i u v =
          let e : i - p ≡ length (replicate n c) + (i - p - n) = omega (arith, length-replicate n c) in
          ap (λ (k : ℕ). get_or (piece_at L b) k 0) e ∙ get_or-append-add (replicate n c) (replicate g 1) (i - p - n) 0
          ∙ get_or-replicate g (i - p - n) 1 0 (omega (arith, length_piece L b))

  laid_from : {f : ℕ → ℕ} {qs : List (List ℕ)} {l : List ℕ} → Laid qs l → (p b : ℕ) → b ≤ L.count → qs ≡ drop b ps
      → ((i : ℕ) → i < length l → f (p + i) ≡ get_or l i 0) → Shows L f p b → Shows L f (p + length l) L.count
  laid_from {f} end p b h e r s =
      let k : b ≡ L.count = omega (arith, ap length e, length-drop b ps, P.many) in
      subst (λ (x : ℕ). Shows L f (p + 0) x) k (rw (add-zero p) s)
  laid_from {f} (blank {l = l} d) p b h e r s =
      let q : p + suc (length l) ≡ p + 1 + length l = omega arith in
      rw q (laid_from d (p + 1) b h e (λ i v. ap f (let z : p + 1 + i ≡ p + suc i = omega arith in z) ∙ r (suc i) (omega arith))
      (blankAt s refl (sym (ap f (add-zero p)) ∙ r 0 (omega arith))))
  laid_from {f} (piece {p = q} {ps = qs} {l = l} d) p b h e r s = go (dec_lt b L.count) (λ p' b' h' e' r' s'. laid_from d p' b' h' e' r' s')
    where
      go : Dec (b < L.count)
          → ((p b : ℕ) → b ≤ L.count → qs ≡ drop b ps → ((i : ℕ) → i < length l → f (p + i) ≡ get_or l i 0) → Shows L f p b
          → Shows L f (p + length l) L.count)
          → Shows L f (p + length (q ++ l)) L.count
      go (no z) up = absurd (omega (arith, ap length e, length-drop b ps, P.many))
      go (yes z) up =
          let c : q ∷ qs ≡ get_or ps b [] ∷ drop (suc b) ps = e ∙ drop-cons ps b [] (omega (arith, P.many)) in
          let q_is : q ≡ piece_at L b = (let y : q ≡ get_or ps b [] = cc in y) ∙ P.each b z in
          let qs-is : qs ≡ drop (b + 1) ps = (let y : qs ≡ drop (suc b) ps = cc in y) ∙ ap (λ (k : ℕ). drop k ps) (sym (add-one b)) in
          let n : p + length (q ++ l) ≡ p + length q + length l = omega (arith, length-append q l) in
          let B : BlockAt L f b p (p + length q) = rw q_is (piece_block b p l z (rw q_is at r)) in
          rw n (up (p + length q) (b + 1) (omega arith) qs-is
          (λ i v. ap f (let y : p + length q + i ≡ p + (length q + i) = omega arith in y) ∙ r (length q + i) (omega (arith, length-append q l))
          ∙ get_or-append-add q l i 0)
          (block_at s refl B))

  -- ---- a line whose cells the list has

  module _ {cells : List ℕ} (long : L.length ≡ length cells) (same : (i : ℕ) → i < length cells → L.cell i ≡ get_or cells i 0) where
    pub fit_solution : {p : List ℕ} → Fitting (Lay ps (length cells)) cells p → Solution L (λ i. get_or p i 0)
    unfolding AgreesTo
    fit_solution {p} f = record {
      shows =
          let s = laid_from {f = λ i. get_or p i 0} f.member.laid 0 0 (omega arith) refl (λ i h. ap (λ (k : ℕ). get_or p k 0) (zero-add i)) edge in
          rw (zero-add, f.member.long, ← long) at s;
      agrees = λ i h. rw (same i (omega arith)) (agrees_takes cells p f.fits i (omega arith));
    }

    pub solution_fit : {f : ℕ → ℕ} → Solution L f → Fitting (Lay ps (length cells)) cells (tabulate (length cells) f)
    unfolding AgreesTo
    solution_fit {f} S = record {
      member = record {
        laid = rw (take_all L.count ps (omega (arith, P.many)), long) at (shows_laid S.shows);
        long = length_tabulate (length cells) f;
      };
      fits = takes_agrees cells (tabulate (length cells) f) (length_tabulate (length cells) f)
          (λ i h. rw (get_d_tabulate (length cells) f i 0 h, ← same i h) (S.agrees i (omega arith)));
    }
