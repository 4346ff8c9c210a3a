-- The whole line: what the struct holds once blocks and sums are written, what the solver is asked there, and that its answer is the paper's.
use mathlib.Core.Path.{◌≡◌, refl, sym, ap, ◌∙◌, subst}
use mathlib.Core.Bool.{Bool, true, false, cond}
use mathlib.Core.Logic.{⊎_elim, ◌≢◌}
use mathlib.Core.List.{List, [], ◌∷◌, ◌++◌}
use mathlib.Core.Option.{none}
use Prim.Native.Nat.{ℕ, zero, suc, ◌+◌, ◌*◌, ◌-◌, ◌≤◌, ◌<◌}
use native.Mathlib.Nat.{not-suc-le-zero, le_of_suc-le-suc}
use native.Mathlib.Omega.{arith}
use borrow.Author.Tests.{eq-eqb, ne_eqb}
use lib.Dec.{eqb}
use lib.ListN.{length, get_or, take, replicate, get_or-replicate, length-replicate}
use lib.Seq.{get_or-take, length-take-le}
use Rattle.rules.specs.Colour.{Has, Colour}
use Rattle.rules.specs.Block.{Block, ◌of◌, Legal, legal_block}
use Rattle.rules.specs.Placement.{pieces, Lay}
use Rattle.rules.specs.Placement.{gap as gap_of}
use Rattle.rules.specs.Answer.{Fitting, Answers, Exact}
use Rattle.rules.specs.Board.{tabulate}
use Rattle.rules.proofs.Tests.{nat_eq_cases}
use Rattle.rules.proofs.Colours.{not_has_zero, has_pow, has_inside}
use Rattle.rules.proofs.Blocks.{test_legal}
use Rattle.rules.proofs.Binaries.{line_only}
use Rattle.rules.proofs.Boards.{get_d_tabulate}
use Rattle.filling.specs.declared.HeldLine.{HeldLine}
use Rattle.filling.specs.Filling.{Line, held, space, Fits, Solution}
use Rattle.filling.specs.Steps.{LegalLine, Covered, Rest, Ask, Tell, entry_of}
use Rattle.solver.specs.Steps.{Cleared, Holds, Summable, KeptBut, Solvable, Tried, outcome}
use Rattle.filling.proofs.Fillings.{space_le}
use Rattle.solver.proofs.Stored.{space_as, kept_cell, kept_size, kept_colour, kept_length, kept_count}
use Rattle.solver.proofs.Bridge.{PiecesOf, fit_solution, solution_fit}

-- ---- the pieces of blocks, by their numbers

colour_some : {c : ℕ} → Colour c → c ≢ 0
colour_some {c} k z = not_has_zero (subst (λ (x : ℕ). Has x k.0) (sym k.1 ∙ z) (has_pow k.0))

length_pieces : (bs : List Block) → length (pieces bs) ≡ length bs
length_pieces [] = refl
length_pieces (b ∷ bs) = ap suc (length_pieces bs)

gap_first : (c : ℕ) (bs : List Block) → c ≢ 0 → gap_of c bs ≡ replicate (cond (eqb (get_or bs 0 (0 of 0)).colour c) 1 0) 1
gap_first c [] z = rw (ne_eqb 0 c (λ q. z (sym q)))
gap_first c (b ∷ bs) z = ⊎_elim
    (λ (t : (c ≡ b.colour) × (eqb c b.colour ≡ true)). rw (t.1, eq-eqb b.colour c (sym t.0)))
    (λ (t : (c ≢ b.colour) × (eqb c b.colour ≡ false)). rw (t.1, ne_eqb b.colour c (λ q. t.0 (sym q))))
    (nat_eq_cases c b.colour)

abbrev piece_of : Block → Block → List ℕ
piece_of b next = replicate b.size b.colour ++ replicate (cond (eqb next.colour b.colour) 1 0) 1

piece_of_lem : (bs : List Block) → Legal bs → (i : ℕ) → i < length bs
    → get_or (pieces bs) i [] ≡ piece_of (get_or bs i (0 of 0)) (get_or bs (i + 1) (0 of 0))
piece_of_lem [] l i h = absurd (not-suc-le-zero h)
piece_of_lem (b ∷ bs) (legal_block s k d l) zero h = ap (λ (t : List ℕ). replicate b.size b.colour ++ t) (gap_first b.colour bs (colour_some k))
piece_of_lem (b ∷ bs) (legal_block s k d l) (suc i) h =
    let q : suc i + 1 ≡ suc (i + 1) = omega arith in
    piece_of_lem bs l i (le_of_suc-le-suc h)
    ∙ ap (λ (x : ℕ). piece_of (get_or bs i (0 of 0)) (get_or (b ∷ bs) x (0 of 0))) (sym q)

size_some : (bs : List Block) → Legal bs → (i : ℕ) → i < length bs → 1 ≤ (get_or bs i (0 of 0)).size
size_some [] l i h = absurd (not-suc-le-zero h)
size_some (b ∷ bs) (legal_block s k d l) zero h = s
size_some (b ∷ bs) (legal_block s k d l) (suc i) h = size_some bs l i (le_of_suc-le-suc h)

-- ---- the struct

module _ {n : ℕ} {bs : List Block} {memo work : List ℕ} {h k : HeldLine} (S : Solvable n bs memo work) (H : Holds h n bs k) where
  legal : Legal bs
  legal = test_legal bs S.legal

  sized : (b : ℕ) → b < length bs → 1 ≤ (held k).size b
  sized b l = rw (H.size_is b l) (size_some bs legal b l)

  pub summable : Summable k
  summable = record {
    short = omega (arith, H.length_is, S.fits.short);
    few = omega (arith, H.count_is, S.fits.few);
    sized = λ b l. sized b (omega (arith, H.count_is));
    no_sum = H.no_sum;
  }

  module _ {m : HeldLine} (K : KeptBut k m) where
    abbrev L : Line
    L = held m

    pub length_is : L.length ≡ n
    length_is = kept_length K ∙ H.length_is

    pub count_is : L.count ≡ length bs
    count_is = kept_count K ∙ H.count_is

    cell_is : (i : ℕ) → L.cell i ≡ get_or h.cells i 0
    cell_is i = kept_cell K i ∙ ap (λ (l : List ℕ). get_or l i 0) H.cells_same

    space_kept : (b : ℕ) → space L b ≡ space (held k) b
    space_kept b = space_as (held k) L b (λ c l. kept_size K c) (λ c l. kept_colour K c) b (omega arith)

    pieces_are : PiecesOf L (pieces bs)
    pieces_are = record {
      many = length_pieces bs ∙ sym count_is;
      each = λ b h.
          let v : b < length bs = omega (arith, count_is) in
          piece_of_lem bs legal b v
          ∙ sym (rw (
            kept_size K b,
            H.size_is b v,
            kept_colour K b,
            H.colour_is b (omega arith),
            kept_colour K (b + 1),
            H.colour_is (b + 1) (omega arith),
          ));
    }

    -- ---- what is told

    abbrev cells : List ℕ
    cells = take n h.cells

    cells_long : length cells ≡ n
    cells_long = length-take-le n h.cells (omega (arith, S.fits.short, H.long, ap (λ (l : List ℕ). length l) H.cells_same))

    cell_same : (i : ℕ) → i < length cells → L.cell i ≡ get_or cells i 0
    cell_same i l = cell_is i ∙ sym (get_or-take n h.cells i 0 (omega (arith, cells_long)))

    abbrev P : List ℕ → Type 0
    P = Lay (pieces bs) (length cells)

    to_solution : {p : List ℕ} → Fitting P cells p → Solution L (λ i. get_or p i 0)
    to_solution f = fit_solution pieces_are (length_is ∙ sym cells_long) cell_same f

    to_fit : {f : ℕ → ℕ} → Solution L f → Fitting P cells (tabulate (length cells) f)
    to_fit s = solution_fit pieces_are (length_is ∙ sym cells_long) cell_same s

    -- more than there is room for: no placement agrees
    pub over_told : {work' : List ℕ} → k.length < space (held k) k.count → 64 ≤ length work' → Tried n bs h.cells false work'
    over_told o l = record {
      tells = line_only bs cells none (record { never = λ p f. omega (arith, space_le L L.count (to_solution f).shows, same_space, length_is) });
      long = l;
    }
      where
        same_space : space L L.count ≡ space (held k) k.count
        same_space = ap (space L) (kept_count K) ∙ space_kept k.count

    -- what the solver finds, for the whole line
    module _ {work₀ memo' work' : List ℕ} {p b : ℕ} (pe : p ≡ n) (be : b ≡ length bs) where
      whole : {r : Bool} → Tell L (Fits L p b) p r work₀ memo' work' → Tell L (Solution L) L.length r work₀ memo' work'
      whole {r} t = subst (λ (x : ℕ). Tell L (Fits L x L.count) x r work₀ memo' work') (pe ∙ sym length_is)
          (subst (λ (y : ℕ). Tell L (Fits L p y) p r work₀ memo' work') (be ∙ sym count_is) t)

      found : Tell L (Solution L) L.length true work₀ memo' work' → Exact P cells (take n work')
      unfolding Covered
      found t =
          let l : length (take n work') ≡ n = length-take-le n work' (omega (arith, S.fits.short, t.good.long)) in
          record {
            long = l ∙ sym cells_long;
            any = let s = t.answer.decides.yes refl in (tabulate (length cells) s.0, to_fit s.1);
            sound = λ i k g.
                let h : i < n = omega (arith, has_inside (take n work') i k g) in
                let s = t.good.sound i (omega (arith, length_is)) k (rw (get_or-take n work' i 0 h) at g) in
                record {
                  by = tabulate (length cells) s.0;
                  ok = to_fit s.1.0;
                  gives = rw (get_d_tabulate (length cells) s.0 i 0 (omega (arith, cells_long))) s.1.1;
                };
            whole = λ i k s.
                let h : i < n = omega (arith, has_inside s.by i k s.gives, s.ok.member.long, cells_long) in
                rw (get_or-take n work' i 0 h)
                (t.answer.covered (λ j. get_or s.by j 0) (to_solution s.ok) i (omega (arith, length_is)) k s.gives);
          }

      told : (r : Bool) → Tell L (Solution L) L.length r work₀ memo' work' → Answers P cells (outcome r (take n work'))
      told true t = found t
      told false t = record { never = λ p f. t.answer.decides.no refl ((λ i. get_or p i 0), to_solution f) }

      pub solver_told : (r : Bool) → Tell L (Fits L p b) p r work₀ memo' work' → Tried n bs h.cells r work'
      solver_told r t = record {
        tells = line_only bs cells (outcome r (take n work')) (told r (whole t));
        long = t.good.long;
      }

    -- what the solver is asked
    module _ (sums : (b : ℕ) → b ≤ k.count → L.sum b ≡ space (held k) b - 1) where
      legal_line : LegalLine L
      legal_line = record {
        short = omega (arith, length_is, S.fits.short);
        few = omega (arith, count_is, S.fits.few);
        sized = λ b l. rw (kept_size K b) (sized b (omega (arith, count_is)));
        sums = λ b l. sums b (omega (arith, kept_count K)) ∙ ap (λ x. x - 1) (sym (space_kept b));
      }

      pub asked : {memo' : List ℕ} {p b : ℕ} → p ≡ n → b ≡ length bs → length memo' ≡ length memo → Cleared memo' ((b + 1) * 64)
          → Ask L p b memo' work
      unfolding Rest Cleared
      asked {memo'} {p} {b} pe be m C = record {
        legal = legal_line;
        here = omega (arith, length_is);
        block = omega (arith, count_is);
        good = record {
          room = omega (arith, S.room);
          long = omega (arith, ap length S.clean, length-replicate {A = ℕ} 64 0);
          known = λ at d l k h. absurd (h (C (entry_of at d) (omega (arith, count_is, length_is, S.fits.short))));
          sound = λ i l k h. absurd (not_has_zero (rw (S.clean, get_or-replicate {A = ℕ} 64 i 0 0 (omega (arith, length_is, S.fits.short))) at h));
        };
        rest = λ g f. (
          g,
          (
            subst (λ (x : ℕ). Fits L x L.count g) (pe ∙ sym length_is)
                (subst (λ (y : ℕ). Fits L p y g) (be ∙ sym count_is) f),
            λ i l. refl,
          ),
        );
      }
