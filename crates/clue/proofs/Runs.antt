-- The clue of a line run by run: the runs that `chunk_by` cuts, of codes that are taken alike.
use Prim.Native.Nat.{◌≤◌, ℕ, zero, suc, ◌+◌, ◌-◌, ◌<◌}
use borrow.Author.Tests.{eq-eqb, ne_eqb, eqb-true, eqb-false, not-false}
use denote.Param.Members.{Mut}
use denote.Ref.{Bor}
use lib.Dec.{eqb}
use lib.ListN.{length, get_or, replicate, length-append, length-map}
use mathlib.Core.Bool.{Bool, true, false, not}
use mathlib.Core.List.{List, [], ◌∷◌, ◌++◌, map, map-append}
use mathlib.Core.Logic.{◌≢◌}
use mathlib.Core.Path.{◌≡◌, refl, sym, ap, ◌∙◌, subst}
use native.Mathlib.Omega.{arith}
use Rattle.clue.specs.Steps.{entries, per, clue_as, read_as}
use Rattle.clue.specs.declared.Field.TheVariants.{Colour, Size}
use Rattle.clue.specs.declared.Ink.{Ink}
use Rattle.clue.specs.declared.Ink.TheVariants.{Coloured, Black}
use Rattle.clue.specs.declared.Part.{Part}
use Rattle.clue.specs.declared.Part.TheVariants.{Count, Each}
use Rattle.rules.proofs.Clues.{clue_run, clue_length}
use Rattle.rules.specs.Block.{◌of◌}
use Rattle.rules.specs.Clue.{Apart, clue, read_binary, black_white}
use Rattle.std.proofs.lemmas.Bool.{not-true}
use Rattle.std.proofs.lemmas.List.{map-id}
use Rattle.std.specs.Fn.{CalledAt, ComputesOnPairs}
use Rattle.std.specs.Prelude.{Some}
use Rattle.std.specs.Iterator.{Drains, Yields}
use Rattle.std.specs.Iterator.Adapters.{filter_source, filter_callee, filter_steps}
use Rattle.std.specs.declared.iter.Filter.{Filter}
use Rattle.std.specs.List.{AllAdjacentBelow, FoldsTo, IsChunkByPrefix}
use Rattle.std.specs.Slice.Iter.{chunk_by_rest, chunk_by_callee, chunk_by_steps}
use Rattle.std.specs.declared.slice.ChunkBy.{ChunkBy}

-- ---- a run of codes that are taken alike

-- two codes are taken alike
abbrev pub alike : (ℕ → ℕ) → ℕ → ℕ → Bool
alike r c d = eqb (r c) (r d)

-- what holds of each two neighbours of a line holds of those after its first code
later : (r : ℕ → ℕ) (x : ℕ) (l : List ℕ) (n : ℕ) → AllAdjacentBelow (λ c d. alike r c d ≡ true) (x ∷ l) (suc n)
    → AllAdjacentBelow (λ c d. alike r c d ≡ true) l n
later r x l n h k d p =
    let e : suc k + 1 ≡ suc (k + 1) = omega arith in
    subst (λ (m : ℕ). alike r (get_or l k d) (get_or (x ∷ l) m d) ≡ true) e (h (suc k) d (omega arith))

first : (r : ℕ → ℕ) (x y : ℕ) (l : List ℕ) (n : ℕ) → AllAdjacentBelow (λ c d. alike r c d ≡ true) (x ∷ y ∷ l) (suc (suc n)) → r x ≡ r y
first r x y l n h = eqb-true (r x) (r y) (h 0 0 (omega arith))

-- all codes of a run are taken as its first is
run_same : (r : ℕ → ℕ) (x : ℕ) (run rest : List ℕ) → AllAdjacentBelow (λ c d. alike r c d ≡ true) (x ∷ run ++ rest) (suc (length run))
    → map r run ≡ replicate (length run) (r x)
run_same r x [] rest h = refl
run_same r x (y ∷ run) rest h =
    let e = first r x y (run ++ rest) (length run) h in
    rw e (ap (λ l. r y ∷ l) (run_same r y run rest (later r x (y ∷ run ++ rest) (suc (length run)) h)))

-- the code after a run is taken otherwise
run_apart : (r : ℕ → ℕ) (x : ℕ) (run rest : List ℕ) → AllAdjacentBelow (λ c d. alike r c d ≡ true) (x ∷ run ++ rest) (suc (length run))
    → (0 < length rest → (d : ℕ) → alike r (get_or (x ∷ run ++ rest) (length run) d) (get_or (run ++ rest) (length run) d) ≡ false)
    → Apart (r x) (map r rest)
run_apart r x run [] h o = tt
run_apart r x [] (z ∷ rest) h o = λ e. eqb-false (r x) (r z) (o (omega arith) 0) (sym e)
run_apart r x (y ∷ run) (z ∷ rest) h o =
    rw (first r x y (run ++ z ∷ rest) (length run) h)
    (run_apart r y run (z ∷ rest) (later r x (y ∷ run ++ z ∷ rest) (suc (length run)) h) o)

-- ---- a run of blanks adds nothing, any other run is a block

blanks : (e n : ℕ) (l : List ℕ) → clue e (replicate n e ++ l) ≡ clue e l
blanks e zero l = refl
blanks e (suc n) l = rw (eq-eqb e e refl) (blanks e n l)

module _ (r : ℕ → ℕ) (e x : ℕ) (run rest : List ℕ) (h : IsChunkByPrefix (alike r) (x ∷ run ++ rest) (suc (length run))) where
  taken : map r (x ∷ run ++ rest) ≡ replicate (suc (length run)) (r x) ++ map r rest
  taken = ap (λ l. r x ∷ l) (map-append r run rest ∙ ap (λ l. l ++ map r rest) (run_same r x run rest h.0))

  blank_taken : r x ≡ e → clue e (map r (x ∷ run ++ rest)) ≡ clue e (map r rest)
  blank_taken q =
      ap (clue e) taken ∙ ap (λ c. clue e (replicate (suc (length run)) c ++ map r rest)) q ∙ blanks e (suc (length run)) (map r rest)

  block_taken : r x ≢ e → clue e (map r (x ∷ run ++ rest)) ≡ suc (length run) of r x ∷ clue e (map r rest)
  block_taken q =
      ap (clue e) taken ∙ clue_run e (suc (length run)) (r x) (map r rest) (omega arith) q (run_apart r x run rest h.0 other)
    where
      at : suc (length run) - 1 ≡ length run
      at = omega arith

      other : 0 < length rest → (d : ℕ) → alike r (get_or (x ∷ run ++ rest) (length run) d) (get_or (run ++ rest) (length run) d) ≡ false
      other p d =
          subst (λ (k : ℕ). alike r (get_or (x ∷ run ++ rest) k d) (get_or (run ++ rest) (length run) d) ≡ false) at
          (h.1 (omega (arith, length-append run rest)) d)

-- the blank code as it is taken
abbrev blank_in : Ink → ℕ → ℕ
blank_in Coloured e = e
blank_in Black e = 1

read_blank : (i : Ink) (e c : ℕ) → c ≡ e → read_as i e c ≡ blank_in i e
read_blank Coloured e c q = q
read_blank Black e c q = rw (eq-eqb c e q)

read_other : (i : Ink) (e c : ℕ) → c ≢ e → read_as i e c ≢ blank_in i e
read_other Coloured e c n = n
read_other Black e c n = λ q. omega (arith, rw (ne_eqb c e n) at q)

-- the clue is that of the codes as they are taken
clue_taken : (i : Ink) (e : ℕ) (l : List ℕ) → clue_as i e l ≡ clue (blank_in i e) (map (read_as i e) l)
clue_taken Coloured e l = ap (clue e) (sym (map-id l))
clue_taken Black e l = refl

module _ (i : Ink) (e : ℕ) where
  pub run_blank : (l run rest : List ℕ) → l ≡ run ++ rest → 0 < length run → IsChunkByPrefix (alike (read_as i e)) l (length run)
      → get_or run 0 0 ≡ e → clue_as i e l ≡ clue_as i e rest
  run_blank l [] rest s p h q = absurd (omega arith)
  run_blank l (x ∷ run) rest s p h q =
      ap (clue_as i e) s ∙ clue_taken i e (x ∷ run ++ rest)
      ∙ blank_taken (read_as i e) (blank_in i e) x run rest (subst (λ (k : List ℕ). IsChunkByPrefix (alike (read_as i e)) k (suc (length run))) s h)
      (read_blank i e x q)
      ∙ sym (clue_taken i e rest)

  pub run_block : (l run rest : List ℕ) → l ≡ run ++ rest → 0 < length run → IsChunkByPrefix (alike (read_as i e)) l (length run)
      → get_or run 0 0 ≢ e
      → clue_as i e l ≡ length run of read_as i e (get_or run 0 0) ∷ clue_as i e rest
  run_block l [] rest s p h q = absurd (omega arith)
  run_block l (x ∷ run) rest s p h q =
      ap (clue_as i e) s ∙ clue_taken i e (x ∷ run ++ rest)
      ∙ block_taken (read_as i e) (blank_in i e) x run rest (subst (λ (k : List ℕ). IsChunkByPrefix (alike (read_as i e)) k (suc (length run))) s h)
      (read_other i e x q)
      ∙ ap (λ bs. suc (length run) of read_as i e x ∷ bs) (sym (clue_taken i e rest))

clue_end : (i : Ink) (e : ℕ) (l : List ℕ) → length l ≡ 0 → clue_as i e l ≡ []
clue_end i e [] p = clue_taken i e []
clue_end i e (x ∷ l) p = absurd (omega arith)

-- ---- what the cut computes it computes at every turn

pub still_computes : {F : Type 0} (g : Mut F (Bor ℕ × (Bor ℕ × Unit {0})) Bool) (t : ℕ → ℕ → Bool) (s u : ChunkBy ℕ F) (xs : List (Bor (List ℕ)))
    → ComputesOnPairs g t (chunk_by_callee s) → Yields (chunk_by_steps g) s xs u → ComputesOnPairs g t (chunk_by_callee u)
still_computes g t s u [] c y = subst (λ k. ComputesOnPairs g t (chunk_by_callee k)) y c
still_computes g t s u (x ∷ xs) c y = still_computes g t y.0 u xs (y.1.2 t c).0 y.2

-- ---- a line has at most an entry a cell

pub clue_low : (i : Ink) (e : ℕ) (l : List ℕ) → length (clue_as i e l) ≤ length l
clue_low Coloured e l = clue_length e l
clue_low Black e l = omega (arith, clue_length 1 (black_white e l), length-map l (read_binary e))

pub entries_low : (i : Ink) (p : Part) (e : ℕ) (l : List ℕ) → length (entries p (clue_as i e l)) ≤ per p (length l)
entries_low i Count e l = omega arith
entries_low i (Each Size) e l = omega (arith, clue_low i e l, length-map (clue_as i e l) (λ b. b.size))
entries_low i (Each Colour) e l = omega (arith, clue_low i e l, length-map (clue_as i e l) (λ b. b.colour))

-- ---- a chain that counts the runs that are not blank

module _ {F H : Type 0} (g : Mut F (Bor ℕ × (Bor ℕ × Unit {0})) Bool) (h : Mut H (Bor (Bor (List ℕ)) × Unit {0}) Bool) (i : Ink) (e : ℕ) (p : H)
    (test : (x : Bor (List ℕ)) (b : Bool) (q : H) → CalledAt h p x b q → (q ≡ p) × (b ≡ not (eqb (get_or x.now 0 0) e))) where
  -- one more run
  run_cut : (s t : ChunkBy ℕ F) (x : Bor (List ℕ)) → ComputesOnPairs g (alike (read_as i e)) (chunk_by_callee s) → chunk_by_steps g s (Some x) t
      → ComputesOnPairs g (alike (read_as i e)) (chunk_by_callee t)
      × ((get_or x.now 0 0 ≡ e → clue_as i e (chunk_by_rest s) ≡ clue_as i e (chunk_by_rest t))
      × (get_or x.now 0 0 ≢ e → length (clue_as i e (chunk_by_rest s)) ≡ suc (length (clue_as i e (chunk_by_rest t)))))
  run_cut s t x c y =
      let k = y.2 (alike (read_as i e)) c in (
        k.0,
        (
          run_blank i e (chunk_by_rest s) x.now (chunk_by_rest t) y.0 y.1 k.1,
          λ n. ap length (run_block i e (chunk_by_rest s) x.now (chunk_by_rest t) y.0 y.1 k.1 n),
        ),
      )

  -- runs that are passed over are blank
  passed : (ys : List (Bor (List ℕ))) (s t : ChunkBy ℕ F) (q : H) → ComputesOnPairs g (alike (read_as i e)) (chunk_by_callee s)
      → Yields (chunk_by_steps g) s ys t → FoldsTo (λ a x b. CalledAt h a x false b) p ys q
      → ComputesOnPairs g (alike (read_as i e)) (chunk_by_callee t) × ((q ≡ p) × (clue_as i e (chunk_by_rest s) ≡ clue_as i e (chunk_by_rest t)))
  passed [] s t q c y f = (subst (λ k. ComputesOnPairs g (alike (read_as i e)) (chunk_by_callee k)) y c, (sym f, ap (λ k. clue_as i e (chunk_by_rest k)) y))
  passed (x ∷ ys) s t q c y f =
      let k = test x false f.0 f.1 in
      let r = run_cut s y.0 x c y.1 in
      let m = passed ys y.0 t q r.0 y.2 (subst (λ a. FoldsTo (λ a x b. CalledAt h a x false b) a ys q) k.0 f.2) in
      (m.0, (m.1.0, r.1.0 (eqb-true (get_or x.now 0 0) e (not-false (eqb (get_or x.now 0 0) e) (sym k.1))) ∙ m.1.1))

  -- a run that is counted is a block
  one_counted : (s t : Filter (ChunkBy ℕ F) H) (x : Bor (List ℕ)) → ComputesOnPairs g (alike (read_as i e)) (chunk_by_callee (filter_source s))
      → filter_callee s ≡ p → filter_steps (chunk_by_steps g) h s (Some x) t
      → ComputesOnPairs g (alike (read_as i e)) (chunk_by_callee (filter_source t)) × ((filter_callee t ≡ p)
      × (length (clue_as i e (chunk_by_rest (filter_source s))) ≡ suc (length (clue_as i e (chunk_by_rest (filter_source t))))))
  one_counted s t x c q y =
      let m = passed y.0 (filter_source s) y.2.0 y.1 c y.2.1 (subst (λ a. FoldsTo (λ a x b. CalledAt h a x false b) a y.0 y.1) q y.3) in
      let k = test x true (filter_callee t) (subst (λ a. CalledAt h a x true (filter_callee t)) m.1.0 y.4) in
      let r = run_cut y.2.0 (filter_source t) x m.0 y.2.2 in
      (r.0, (k.0, ap length m.1.1 ∙ r.1.1 (eqb-false (get_or x.now 0 0) e (not-true (eqb (get_or x.now 0 0) e) (sym k.1)))))

  counted : (xs : List (Bor (List ℕ))) (s t : Filter (ChunkBy ℕ F) H) → ComputesOnPairs g (alike (read_as i e)) (chunk_by_callee (filter_source s))
      → filter_callee s ≡ p → Yields (filter_steps (chunk_by_steps g) h) s xs t
      → ComputesOnPairs g (alike (read_as i e)) (chunk_by_callee (filter_source t)) × ((filter_callee t ≡ p)
      × (length (clue_as i e (chunk_by_rest (filter_source s))) ≡ length xs + length (clue_as i e (chunk_by_rest (filter_source t)))))
  counted [] s t c q y = (
    subst (λ k. ComputesOnPairs g (alike (read_as i e)) (chunk_by_callee (filter_source k))) y c,
    (sym (ap filter_callee y) ∙ q, omega (arith, ap (λ k. length (clue_as i e (chunk_by_rest (filter_source k)))) y)),
  )
  counted (x ∷ xs) s t c q y =
      let o = one_counted s y.0 x c q y.1 in
      let m = counted xs y.0 t o.0 o.1.0 y.2 in
      (m.0, (m.1.0, omega (arith, o.1.1, m.1.1)))

  pub count_drained : (xs : List (Bor (List ℕ))) (s : Filter (ChunkBy ℕ F) H) → ComputesOnPairs g (alike (read_as i e)) (chunk_by_callee (filter_source s))
      → filter_callee s ≡ p → Drains (filter_steps (chunk_by_steps g) h) s xs → length xs ≡ length (clue_as i e (chunk_by_rest (filter_source s)))
  count_drained xs s c q d =
      let m = counted xs s d.1.0 c q d.1.1 in
      let z = d.1.2 in
      let b = passed z.0 (filter_source d.1.0) z.2.0 z.1 m.0 z.2.1 (subst (λ a. FoldsTo (λ a x b. CalledAt h a x false b) a z.0 z.1) m.1.0 z.3) in
      omega (arith, m.1.1, ap length b.1.1, ap length (clue_end i e (chunk_by_rest z.2.0) z.2.2.0))
