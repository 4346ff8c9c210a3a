-- From the rules to what a run asks, and from its end to the call's statement.
use Rattle.std.specs.Prelude.{Result, Err, Ok, replicate}
use mathlib.Core.Path.{◌≡◌, refl, sym, ap, ap₂, ◌∙◌, subst}
use mathlib.Core.Bool.{true, not}
use mathlib.Core.List.{List, [], ◌∷◌, ◌++◌, map}
use Prim.Native.Nat.{ℕ, suc, ◌*◌, ◌≤◌}
use native.Mathlib.Omega.{arith}
use borrow.Author.Tests.{ltb-true, ltb-false, le-ltb, not-false}
use lib.Dec.{ltb}
use lib.ListN.{length, get_or, take, length-map}
use lib.Seq.{sets}
use Rattle.rules.specs.Binary.{set_by, cell_of}
use Rattle.rules.specs.Block.{blacks}
use Rattle.rules.specs.Card.{Card, black_card, sum, card_of}
use Rattle.rules.specs.CardRules.{card_rules}
use Rattle.rules.specs.Refusal.{Rule, ◌when◌, verdict}
use Rattle.rules.specs.Run.{room, Outcome, board_of, report_of}
use Rattle.rules.specs.declared.Refusal.{Refusal}
use Rattle.rules.specs.declared.Refusal.TheVariants.{OutsideGrid, ShortReport}
use Rattle.rules.proofs.Blocks.{blacks_take}
use Rattle.rules.proofs.Tests.{both_true}
use Rattle.rules.proofs.Verdicts.{bad_not_fine, fine_cons, append_bad, append_fine, append_parts}
use Rattle.loops.proofs.Going.{written_sets}
use Rattle.card.specs.Steps.{Direction}
use Rattle.card.proofs.Counted.{card_known, card_right}
use Rattle.run.specs.declared.Start.{Start}
use Rattle.run.specs.declared.Start.TheVariants.{Full, Point}
use Rattle.run.specs.declared.Progress.{Progress}
use Rattle.run.specs.declared.RunError.{RunError}
use Rattle.propagation.specs.Calls.{in_grid, end_rules, Ran, Cells, set_cells, binary_cells, RunsIn}
use Rattle.run.specs.Ends.{Reply, refusal, reply_to, end_of}
use Rattle.run.specs.Steps.{InGrid, Ended, Judged}
use Rattle.propagation.specs.Steps.{EndedIn, sets_in, grid_in, rules_in, all_rules}

-- ---- the rules, one after the other

module _ (k : Cells) (w h : ℕ) (s : Start) (c : Card) (grid : List ℕ) (report memo stack : ℕ) where
  abbrev firsts : List Rule
  firsts = card_rules w h (length grid) c memo stack

  abbrev lasts : List Rule
  lasts = end_rules w h s report (room (sets_in k grid))

  abbrev rest : List Rule
  rest = rules_in k grid ++ lasts

  pub card_bad : {r : Refusal} → Err r ≡ verdict firsts → Err r ≡ verdict (all_rules k w h s c grid report memo stack)
  card_bad e = sym (append_bad firsts rest (sym e))

  pub cells_bad : {r : Refusal} → Ok tt ≡ verdict firsts → Err r ≡ verdict (rules_in k grid)
      → Err r ≡ verdict (all_rules k w h s c grid report memo stack)
  cells_bad e f = sym (append_fine firsts rest (sym e) ∙ append_bad (rules_in k grid) lasts (sym f))

  pub ends_left : Ok tt ≡ verdict firsts → Ok tt ≡ verdict (rules_in k grid)
      → verdict lasts ≡ verdict (all_rules k w h s c grid report memo stack)
  ends_left e f = sym (append_fine firsts rest (sym e) ∙ append_fine (rules_in k grid) lasts (sym f))

-- a full run asks of the rest only room for the report
pub full_fine : (k : Cells) (w h : ℕ) (c : Card) (grid : List ℕ) (report memo stack : ℕ)
    → verdict (card_rules w h (length grid) c memo stack) ≡ Ok tt → verdict (rules_in k grid) ≡ Ok tt → room (sets_in k grid) ≤ report
    → verdict (all_rules k w h Full c grid report memo stack) ≡ Ok tt
full_fine k w h c grid report memo stack e f r =
    sym (ends_left k w h Full c grid report memo stack (sym e) (sym f)) ∙ rw (le-ltb report (room (sets_in k grid)) r)

-- ---- what the rules leave

in_grid_lem : (w h : ℕ) (s : Start) → in_grid w h s ≡ true → InGrid w h s
in_grid_lem w h Full e = tt
in_grid_lem w h (Point x y) e = let p = both_true (ltb x.0 w) (ltb y.0 h) e in (ltb-true _ _ p.0, ltb-true _ _ p.1)

ends_kept : (w h : ℕ) (s : Start) (report n : ℕ) → verdict (end_rules w h s report n) ≡ Ok tt → InGrid w h s × (n ≤ report)
ends_kept w h s report n e =
    let r = ShortReport when ltb report n in
    let p = fine_cons (OutsideGrid when not (in_grid w h s)) (r ∷ []) e in
    (in_grid_lem w h s (not-false (in_grid w h s) p.0), ltb-false report n (fine_cons r [] p.1).0)

length_sets : (k : Cells) (grid : List ℕ) → length (sets_in k grid) ≡ length grid
length_sets set_cells grid = refl
length_sets binary_cells grid = length-map grid set_by

module _ (w h : ℕ) (s : Start) (c : Card) (grid report memo stack : List ℕ) (k : Cells) where
  abbrev judging : List Rule
  judging = card_rules w h (length grid) c (length memo) (length stack)

  abbrev ending : List Rule
  ending = end_rules w h s (length report) (room (sets_in k grid))

  module _ (e : verdict (all_rules k w h s c grid (length report) (length memo) (length stack)) ≡ Ok tt) where
    split : (verdict judging ≡ Ok tt) × (verdict (rules_in k grid) ≡ Ok tt) × (verdict ending ≡ Ok tt)
    split =
        let p = append_parts judging (rules_in k grid ++ ending) e in
        let q = append_parts (rules_in k grid) ending p.1 in
        (p.0, q.0, q.1)

    pub judged_in : Judged w h s c (sets_in k grid) report memo stack
    judged_in =
        let known = card_known w h (length grid) c (length memo) (length stack) split.0 in
        let p = ends_kept w h s (length report) (room (sets_in k grid)) split.2 in
        record {
          grid =
              record {
                wide = known.wide;
                wide_most = known.wide_most;
                high = known.high;
                high_most = known.high_most;
                size = length_sets k grid ∙ known.size;
              };
          right = card_right w h (length grid) c (length memo) (length stack) split.0;
          inside = p.0;
          memos = known.memos;
          stacked = known.stacks;
          reports = p.1;
        }

    -- no cell breaks rule 5
    pub cells_kept : verdict (rules_in k grid) ≡ Ok tt
    cells_kept = split.1

-- ---- black colours

sum_few : (counts : List ℕ) → ((i : ℕ) → get_or counts i 0 ≤ 64) → sum counts ≤ 64 * length counts
sum_few [] f = omega arith
sum_few (n ∷ c) f = omega (arith, f 0, sum_few c (λ i. f (suc i)))

-- no direction has more than 4,096 blocks
blocks_few : {n : ℕ} {counts sizes colours : List ℕ} → Direction n counts sizes colours → n ≤ 64 → length sizes ≤ 4096
blocks_few {counts = counts} d h = omega (arith, d.total, d.lines, sum_few counts d.few)

module _ {w h : ℕ} {s : Start} {rc rs cc cs grid report memo stack : List ℕ}
    (v : Judged w h s (black_card rc rs cc cs) grid report memo stack) where
  pub rows_few : length rs ≤ 4096
  rows_few = blocks_few v.right.rows v.grid.high_most

  pub columns_few : length cs ≤ 4096
  columns_few = blocks_few v.right.columns v.grid.wide_most

  module _ {colours : List ℕ} (dyed : colours ≡ replicate 4096 2) where
    -- black colours for all blocks make the black card
    black_card_lem : card_of rc rs (take (length rs) colours) cc cs (take (length cs) colours) ≡ black_card rc rs cc cs
    black_card_lem = ap₂ (λ t u. card_of rc rs t cc cs u) (black rs rows_few) (black cs columns_few)
      where
        black : (ns : List ℕ) → length ns ≤ 4096 → take (length ns) colours ≡ blacks ns
        black ns l = ap (take (length ns)) dyed ∙ blacks_take ns 4096 l

    module _ {b : List ℕ} (e : b ≡ grid) where
      pub black_judged : Judged w h s (card_of rc rs (take (length rs) colours) cc cs (take (length cs) colours)) b report memo stack
      black_judged = rw (black_card_lem, e) v

      pub black_ended : {r : Result Progress RunError} {b' grid' report' : List ℕ}
          → Ended (end_of w h s (card_of rc rs (take (length rs) colours) cc cs (take (length cs) colours)) b) r b' report report'
          → grid' ≡ map cell_of b' → EndedIn binary_cells (end_of w h s (black_card rc rs cc cs) grid) r grid' report report'
      black_ended {r} {b'} {report' = report'} u f =
          let t : Ended (end_of w h s (black_card rc rs cc cs) grid) r b' report report' =
          subst (λ (a : List ℕ). Ended (end_of w h s (black_card rc rs cc cs) a) r b' report report') e
          (subst (λ (c : Card). Ended (end_of w h s c b) r b' report report') black_card_lem u) in
          record { tells = t.tells; board = f ∙ ap (map cell_of) t.board; reports = t.reports }

-- ---- the statement

pub ran_ended : {rules : List Rule} {o : Outcome} {board grid report memo stack : List ℕ} {t : Reply} {grid' report' memo' stack' : List ℕ}
    → verdict rules ≡ Ok tt → t ≡ reply_to o → grid' ≡ board → report' ≡ sets report 0 (report_of o) → length (report_of o) ≤ length report
    → length memo' ≡ length memo → length stack' ≡ length stack → Ran rules o board grid report memo stack t grid' report' memo' stack'
ran_ended {o = o} {report = report} e t b r n m k =
    record {
      tells = rw e t;
      leaves = rw e b;
      reports = rw e (r ∙ written_sets (report_of o) report n);
      kept_memo = λ u f. absurd (bad_not_fine (sym f ∙ e));
      kept_stack = λ u f. absurd (bad_not_fine (sym f ∙ e));
      long_memo = m;
      long_stack = k;
    }

-- what is refused by checking stays as it stood
pub ran_refused : {rules : List Rule} {o : Outcome} {board grid report memo stack : List ℕ} {r : Refusal}
    → verdict rules ≡ Err r → Ran rules o board grid report memo stack (refusal r) grid report memo stack
ran_refused e =
    record {
      tells = rw e refl;
      leaves = rw e refl;
      reports = rw e refl;
      kept_memo = λ u f. refl;
      kept_stack = λ u f. refl;
      long_memo = refl;
      long_stack = refl;
    }

-- of each kind of cell
module _ (w h : ℕ) (s : Start) (c : Card) (grid report memo stack : List ℕ) {t : Reply} {grid' report' memo' stack' : List ℕ} where
  pub runs_in : (k : Cells)
      → Ran (all_rules k w h s c grid (length report) (length memo) (length stack)) (end_of w h s c (sets_in k grid))
      (grid_in k (board_of (end_of w h s c (sets_in k grid)))) grid report memo stack t grid' report' memo' stack'
      → RunsIn k w h s c grid report memo stack t grid' report' memo' stack'
  runs_in set_cells p = p
  runs_in binary_cells p = p
