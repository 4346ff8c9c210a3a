-- The laws of fillings: how a filling of the first cells ends, how an answer grows by a piece, and how the memo learns.
use mathlib.Core.Path.{◌≡◌, refl, sym, subst, ◌∙◌}
use mathlib.Core.Bool.{Bool, true, false, ◌||◌, false≢true, true≢false, cond}
use mathlib.Core.Logic.{◌⊎◌, inl, inr, ⊎_elim}
use mathlib.Core.List.{List}
use Prim.Native.Nat.{ℕ, zero, suc, ◌+◌, ◌≤◌, ◌<◌}
use native.Mathlib.Decide.{ℕ_discrete}
use native.Mathlib.Numerals.{add-one}
use native.Mathlib.Omega.{arith}
use borrow.Author.Tests.{lt-ltb, le-ltb, eqb-true, eqb-false}
use lib.Dec.{T, ltb, eqb}
use lib.ListN.{get_or, set, length-set}
use lib.Seq.{get_or-set_same, get_or-set_other}
use Rattle.rules.proofs.Tests.{below?}
use Rattle.rules.proofs.Colours.{has_or}
use Rattle.filling.specs.Filling.{Line, taken, space, BlockAt, Shows, edge, blank, block, AgreesTo, Fits, Solution}
use Rattle.filling.specs.Steps.{Decides, Added, Covered, Grows, Answer, Rest, Good, LegalLine, Tell, EndsBlank, EndsBlock, entry_of}
use Rattle.filling.proofs.Added.{added_grows, added_covers}

-- a test's result says whether it holds
pub told : {r b : Bool} → r ≡ b → Decides (T b) r
told {r} {b} e = record {
  yes = λ h. subst T (sym h ∙ e) tt;
  no = λ h t. subst T (sym e ∙ h) t;
}

-- g below p, and h from p on
abbrev pub patch : ℕ → (ℕ → ℕ) → (ℕ → ℕ) → ℕ → ℕ
patch p g h i = cond (ltb i p) (g i) (h i)

pub patch_lt : (p : ℕ) (g h : ℕ → ℕ) (i : ℕ) → i < p → patch p g h i ≡ g i
patch_lt p g h i l = rw (lt-ltb i p l)

pub patch_ge : (p : ℕ) (g h : ℕ → ℕ) (i : ℕ) → p ≤ i → patch p g h i ≡ h i
patch_ge p g h i l = rw (le-ltb i p l)

module _ (L : Line) where
  block_as : {f g : ℕ → ℕ} {b p q : ℕ} → BlockAt L f b p q → ((i : ℕ) → i < q → g i ≡ f i) → BlockAt L g b p q
  block_as B e = record {
    within = B.within;
    ends = B.ends;
    inside = λ i u v. e i (omega (arith, B.ends)) ∙ B.inside i u v;
    after = λ i u v. e i v ∙ B.after i u v;
  }

  shows_as : {f g : ℕ → ℕ} {p b : ℕ} → Shows L f p b → ((i : ℕ) → i < p → g i ≡ f i) → Shows L g p b
  shows_as edge e = edge
  shows_as (blank {p} s q x) e = blank (shows_as s (λ i l. e i (omega arith))) q (e p (omega arith) ∙ x)
  shows_as (block s q B) e = block (shows_as s (λ i l. e i (omega (arith, B.ends)))) q (block_as B e)

  fits_as : {f g : ℕ → ℕ} {p b : ℕ} → Fits L p b f → ((i : ℕ) → i < p → g i ≡ f i) → Fits L p b g
  unfolding AgreesTo
  fits_as F e = record { shows = shows_as F.shows e; agrees = λ i l. rw (e i l) (F.agrees i l) }

  -- no cell holds no block
  pub no_cells : {f : ℕ → ℕ} {p b : ℕ} → LegalLine L → Shows L f p b → p ≡ 0 → b ≡ 0
  no_cells G edge z = refl
  no_cells G (blank s q x) z = omega arith
  no_cells G (block {b = b} s q B) z = omega (arith, B.ends, G.sized b B.within)

  -- the blocks take their least space
  taken_le : {f : ℕ → ℕ} {p b : ℕ} → Shows L f p b → taken L b ≤ p
  taken_le edge = omega arith
  taken_le (blank s q x) = omega (arith, taken_le s)
  taken_le (block {b = b} s q B) = rw (q ∙ add-one b) (omega (arith, taken_le s, B.ends))

  pub space_le : {f : ℕ → ℕ} {p : ℕ} (b : ℕ) → Shows L f p b → space L b ≤ p
  space_le zero s = omega arith
  space_le (suc c) s = omega (arith, taken_le s)

  pub at_edge : (p b : ℕ) (out : List ℕ) → LegalLine L → p ≡ 0 → Answer (Fits L p b) p (eqb b 0) out
  unfolding Covered AgreesTo
  at_edge p b out G z = record {
    covered = λ f F i l. absurd (omega arith);
    decides = record {
      yes = λ e. ((λ i. 1), rw (z, eqb-true b 0 e) (record { shows = edge; agrees = λ i l. absurd (omega arith) }));
      no = λ e x. eqb-false b 0 e (no_cells G x.1.shows z);
    };
  }

  -- a filling of one cell more ends in a blank or in a block
  last : {f : ℕ → ℕ} {p b : ℕ} (at : ℕ) → Shows L f p b → AgreesTo L p f → p ≡ at + 1 → EndsBlank L at b f ⊎ EndsBlock L at b f
  unfolding AgreesTo
  last at edge A z = absurd (omega arith)
  last {f} at (blank {p} {b = b} s q x) A z =
      let e : p ≡ at = omega arith in
      let y : f at ≡ 1 = rw e at x in
      inl (record {
        before = record { shows = rw e at s; agrees = λ i l. A i (omega arith) };
        takes = rw y at (A at (omega arith));
        is = y;
      })
  last {f} at (block {p} {b = b} s q B) A z =
      inr (record { start = p; prior = b; is = q; before = s; block = rw z at B; agrees = rw z at A })

  pub ends : {f : ℕ → ℕ} (at b : ℕ) → Fits L (at + 1) b f → EndsBlank L at b f ⊎ EndsBlock L at b f
  ends at b F = last at F.shows F.agrees refl

  pub blank_fits : {f : ℕ → ℕ} (at b : ℕ) → EndsBlank L at b f → Fits L (at + 1) b f
  unfolding AgreesTo
  blank_fits {f} at b E = record {
    shows = blank E.before.shows refl E.is;
    agrees = λ i l. below? i at
        (λ v. E.before.agrees i v)
        (λ v. let e : i ≡ at = omega arith in rw (e, E.is) E.takes);
  }

  pub block_fits : {f : ℕ → ℕ} (at b : ℕ) → EndsBlock L at b f → Fits L (at + 1) b f
  block_fits at b E = record { shows = block E.before E.is E.block; agrees = E.agrees }

  -- what an answer says is kept where the answer grows
  grown : {Q : (ℕ → ℕ) → Type 0} {p : ℕ} {r : Bool} {o o' : List ℕ} → Grows o o' → Answer Q p r o → Answer Q p r o'
  unfolding Grows Covered
  grown G A = record { covered = λ f x i l k b. G i k (A.covered f x i l k b); decides = A.decides }

  -- a filling with Q is one of the first p cells and b blocks that shows h from p up to q
  pub record Piece (Q : (ℕ → ℕ) → Type 0) (p b q : ℕ) (h : ℕ → ℕ) : Type 0 where
    pub fits : (f : ℕ → ℕ) → Q f → Fits L p b f
    pub shows : (f : ℕ → ℕ) → Q f → (i : ℕ) → p ≤ i → i < q → f i ≡ h i
    pub made : (f : ℕ → ℕ) → Fits L p b f → ((i : ℕ) → p ≤ i → i < q → f i ≡ h i) → Q f

  -- an answer that changes nothing
  pub still : {Q : (ℕ → ℕ) → Type 0} {p : ℕ} {r : Bool} {memo out : List ℕ} → Good L memo out → Answer Q p r out → Tell L Q p r out memo out
  unfolding Grows
  still G A = record { good = G; grows = λ i j b. b; answer = A }

  -- a branch whose test fails leaves all as it is
  pub no_branch : {Q : (ℕ → ℕ) → Type 0} (q : ℕ) {memo out : List ℕ} → Good L memo out → ((f : ℕ → ℕ) → Q f → ⊥) → Tell L Q q false out memo out
  no_branch q G n = still G
      (record { covered = λ f x. absurd (n f x); decides = record { yes = λ e. absurd (false≢true e); no = λ e x. n x.0 x.1 } })

  module _ {Q : (ℕ → ℕ) → Type 0} {p b q : ℕ} {h : ℕ → ℕ} (P : Piece Q p b q h) where
    -- a filling of the first p cells, with h put after it
    pub longer : (g : ℕ → ℕ) → Fits L p b g → Q (patch p g h)
    longer g F = P.made (patch p g h) (fits_as F (λ i l. patch_lt p g h i l)) (λ i l v. patch_ge p g h i l)

    -- where the branch below finds nothing, this one has nothing
    pub no_piece : {out memo' out' : List ℕ} → Tell L (Fits L p b) p false out memo' out' → Tell L Q q false out memo' out'
    no_piece T = record {
      good = T.good;
      grows = T.grows;
      answer = record {
        covered = λ f x. absurd (none f x);
        decides = record { yes = λ e. absurd (false≢true e); no = λ e x. none x.0 x.1 };
      };
    }
      where
        none : (f : ℕ → ℕ) → Q f → ⊥
        none f x = T.answer.decides.no refl (f, P.fits f x)

    module _ {c : ℕ} (whole : (f : ℕ → ℕ) → Q f → Fits L q c f) (R : Rest L q c) (pq : p ≤ q) where
      go_on : (g : ℕ → ℕ) → Fits L p b g → (f : ℕ → ℕ) × (Solution L f × ((i : ℕ) → i < q → f i ≡ patch p g h i))
      unfolding Rest
      go_on g F = R (patch p g h) (whole (patch p g h) (longer g F))

      -- what the branch below is asked
      pub piece_rest : Rest L p b
      unfolding Rest
      piece_rest g F =
          let r = go_on g F in
          (r.0, (r.1.0, λ i l. r.1.1 i (omega arith) ∙ patch_lt p g h i l))

      -- where the branch below finds something, and the piece's colours are added
      pub piece : {out memo' out₁ out₂ : List ℕ} → q ≤ L.length → Tell L (Fits L p b) p true out memo' out₁ → Added out₁ out₂ p q h
          → Tell L Q q true out memo' out₂
      unfolding Grows
      piece {out₁ = out₁} {out₂ = out₂} qn T A =
          let G = T.good in
          let found = T.answer.decides.yes refl in
          let s = go_on found.0 found.1 in
          let up : Grows out₁ out₂ = added_grows A in
          record {
            good = record {
              room = G.room;
              long = omega (arith, G.long, A.long);
              known = λ at d l m v. grown up (G.known at d l m v);
              sound = λ i l j x. below? i p
                  (λ v. G.sound i l j (rw (A.outside i (λ y z. omega arith)) at x))
                  (λ u. below? i q
                  (λ v. ⊎_elim (λ y. G.sound i l j y)
                  (λ y. (s.0, (s.1.0, rw (s.1.1 i v ∙ patch_ge p found.0 h i u) y)))
                  (has_or (get_or out₁ i 0) (h i) (rw (A.inside i u v) at x)))
                  (λ v. G.sound i l j (rw (A.outside i (λ y z. omega arith)) at x)));
            };
            grows = λ i j x. up i j (T.grows i j x);
            answer = record {
              covered = λ f x. added_covers A f (T.answer.covered f (P.fits f x)) (P.shows f x);
              decides = record { yes = λ e. (patch p found.0 h, longer found.0 found.1); no = λ e. absurd (true≢false e) };
            };
          }

  -- the two ways to end together
  either : (at b : ℕ) (r₁ r₂ : Bool) {out memo₁ out₁ memo₂ out₂ : List ℕ} → Tell L (EndsBlank L at b) (at + 1) r₁ out memo₁ out₁
      → Tell L (EndsBlock L at b) (at + 1) r₂ out₁ memo₂ out₂ → Decides ((f : ℕ → ℕ) × Fits L (at + 1) b f) (r₁ || r₂)
  either at b true r₂ T U = record {
    yes = λ e. let x = T.answer.decides.yes refl in (x.0, blank_fits at b x.1);
    no = λ e. absurd (true≢false e);
  }
  either at b false true T U = record {
    yes = λ e. let x = U.answer.decides.yes refl in (x.0, block_fits at b x.1);
    no = λ e. absurd (true≢false e);
  }
  either at b false false T U = record {
    yes = λ e. absurd (false≢true e);
    no = λ e x. ⊎_elim (λ y. T.answer.decides.no refl (x.0, y)) (λ y. U.answer.decides.no refl (x.0, y)) (ends at b x.1);
  }

  pub both : (at b : ℕ) {r₁ r₂ : Bool} {out memo₁ out₁ memo₂ out₂ : List ℕ} → Tell L (EndsBlank L at b) (at + 1) r₁ out memo₁ out₁
      → Tell L (EndsBlock L at b) (at + 1) r₂ out₁ memo₂ out₂ → Tell L (Fits L (at + 1) b) (at + 1) (r₁ || r₂) out memo₂ out₂
  unfolding Grows
  both at b {r₁} {r₂} T U = record {
    good = U.good;
    grows = λ i j x. U.grows i j (T.grows i j x);
    answer = record {
      covered = λ f F. ⊎_elim (λ x. (grown U.grows T.answer).covered f x) (λ x. U.answer.covered f x) (ends at b F);
      decides = either at b r₁ r₂ T U;
    };
  }

  -- the memo learns an answer
  pub learn : (at b v : ℕ) {r : Bool} {out memo out' : List ℕ} → at < L.length → b ≤ L.count → LegalLine L → eqb v 2 ≡ r
      → Tell L (Fits L (at + 1) b) (at + 1) r out memo out' → Tell L (Fits L (at + 1) b) (at + 1) r out (set memo (entry_of at b) v) out'
  learn at b v {r} {out} {memo} {out'} an bk legal e T = record {
    good = record {
      room = rw length-set T.good.room;
      long = T.good.long;
      known = known;
      sound = T.good.sound;
    };
    grows = T.grows;
    answer = T.answer;
  }
    where
      known : (at' b' : ℕ) → at' < L.length → b' ≤ L.count → (get_or (set memo (entry_of at b) v) (entry_of at' b') 0 ≡ 0 → ⊥)
          → Answer (Fits L (at' + 1) b') (at' + 1) (eqb (get_or (set memo (entry_of at b) v) (entry_of at' b') 0) 2) out'
      known at' b' u w n = elim (ℕ_discrete (entry_of at' b') (entry_of at b)) [
        | yes x ↦
            let y : at' ≡ at = omega (arith, legal.few) in
            let z : b' ≡ b = omega (arith, legal.few) in
            rw (y, z, get_or-set_same memo (entry_of at b) v 0 (omega (arith, legal.short, legal.few, T.good.room)), e) T.answer
        | no x ↦
            rw (get_or-set_other memo (entry_of at b) (entry_of at' b') v 0 x)
            (T.good.known at' b' u w (rw (get_or-set_other memo (entry_of at b) (entry_of at' b') v 0 x) at n))
      ]
