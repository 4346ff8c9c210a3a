-- Counts and parts: what the rules leave of a card's lists, and that a line's part of them is a legal clue.
use Rattle.std.specs.Prelude.{Ok}
use mathlib.Core.Path.{◌≡◌, refl, ap, ap₂, ◌∙◌}
use mathlib.Core.Bool.{Bool, true, false, not, ◌&&◌}
use mathlib.Core.List.{List, [], ◌∷◌, map}
use Prim.Native.Nat.{ℕ, zero, suc, ◌+◌, ◌*◌, ◌≤◌, ◌<◌}
use native.Mathlib.Nat.{not-suc-le-zero, le_of_suc-le-suc}
use native.Mathlib.Omega.{arith}
use borrow.Author.Tests.{eqb-true, leb-true, not-false}
use lib.Dec.{eqb, leb}
use lib.ListN.{length, get_or, take, length-map}
use Rattle.std.specs.Prelude.{sum_by}
use Rattle.std.proofs.lemmas.List.Sums.{sum_by-cons}
use Rattle.rules.specs.Block.{black, blacks, blocks, illegal}
use Rattle.rules.specs.Card.{Card, black_card, sum}
use Rattle.rules.specs.CardRules.{counts_fit, room_fits, crowded, card_rules}
use Rattle.rules.specs.Refusal.{Rule, ◌when◌, verdict, side_rules, memo_size, stack_size}
use Rattle.rules.specs.declared.Refusal.TheVariants.{BadRoom, TooManyBlocks, BadBlock}
use Rattle.rules.proofs.Blocks.{blacks_blocks}
use Rattle.rules.proofs.Tests.{both_true}
use Rattle.rules.proofs.Searching.{not_above}
use Rattle.rules.proofs.Verdicts.{append_fine, append_parts, fine_cons, sides_fine}
use Rattle.card.specs.Steps.{RightCard, list_rules, legal_rules, test_rules}

-- ---- sums

-- the library's sum of a list is the card's
pub sum_is : (c : List ℕ) → sum_by (λ x. x) c ≡ sum c
sum_is [] = refl
sum_is (n ∷ c) = sum_by-cons (λ x. x) n c ∙ ap (λ k. n + k) (sum_is c)

-- a line's part ends within the list
pub sum_part : (c : List ℕ) (i : ℕ) → i < length c → sum (take i c) + get_or c i 0 ≤ sum c
sum_part [] i h = absurd (not-suc-le-zero h)
sum_part (n ∷ c) zero h = omega arith
sum_part (n ∷ c) (suc i) h = omega (arith, sum_part c i (le_of_suc-le-suc h))

pub sum-all : (c : List ℕ) (n : ℕ) → length c ≡ n → sum (take n c) ≡ sum c
sum-all [] zero e = refl
sum-all [] (suc n) e = refl
sum-all (x ∷ c) zero e = absurd (omega arith)
sum-all (x ∷ c) (suc n) e = ap (λ k. x + k) (sum-all c n (omega arith))

-- ---- what the tests tell

pub record FittingLists (n : ℕ) (counts : List ℕ) (sizes colours : ℕ) : Type 0 where
  pub lines : length counts ≡ n
  pub total : sum counts ≡ sizes
  pub pairs : colours ≡ sizes

pub fitting : (n : ℕ) (counts : List ℕ) (sizes colours : ℕ) → counts_fit n counts sizes colours ≡ true → FittingLists n counts sizes colours
fitting n counts sizes colours e =
    let p = both_true (eqb (length counts) n) (eqb (sum counts) sizes && eqb colours sizes) e in
    let q = both_true (eqb (sum counts) sizes) (eqb colours sizes) p.1 in
    record { lines = eqb-true _ _ p.0; total = eqb-true _ _ q.0; pairs = eqb-true _ _ q.1 }

-- what the rules 1 to 3 leave
pub record Known (w h cells : ℕ) (rc : List ℕ) (rows row_colours : ℕ) (cc : List ℕ) (columns column_colours memo stack : ℕ) : Type 0 where
  pub wide : 0 < w
  pub wide_most : w ≤ 64
  pub high : 0 < h
  pub high_most : h ≤ 64
  pub size : cells ≡ w * h
  pub memos : memo_size ≤ memo
  pub stacks : stack_size ≤ stack
  pub row_lists : FittingLists h rc rows row_colours
  pub column_lists : FittingLists w cc columns column_colours
  pub row_few : (i : ℕ) → get_or rc i 0 ≤ 64
  pub column_few : (i : ℕ) → get_or cc i 0 ≤ 64

-- the outcomes of the tests
record Tested (roomy rowsFit columnsFit rowsCrowded columnsCrowded : Bool) : Type 0 where
  room : roomy ≡ true
  rows : rowsFit ≡ true
  columns : columnsFit ≡ true
  row_few : rowsCrowded ≡ false
  column_few : columnsCrowded ≡ false

tested : (a b d e f : Bool) → verdict (test_rules a b d e f) ≡ Ok tt → Tested a b d e f
tested a b d e f q =
    let r1 = BadRoom when not a in
    let r2 = BadRoom when not b in
    let r3 = BadRoom when not d in
    let r4 = TooManyBlocks when e in
    let r5 = TooManyBlocks when f in
    let p1 = fine_cons r1 (r2 ∷ r3 ∷ r4 ∷ r5 ∷ []) q in
    let p2 = fine_cons r2 (r3 ∷ r4 ∷ r5 ∷ []) p1.1 in
    let p3 = fine_cons r3 (r4 ∷ r5 ∷ []) p2.1 in
    let p4 = fine_cons r4 (r5 ∷ []) p3.1 in
    record {
      room = not-false a p1.0;
      rows = not-false b p2.0;
      columns = not-false d p3.0;
      row_few = p4.0;
      column_few = (fine_cons r5 [] p4.1).0;
    }

module _ (w h cells : ℕ) (rc : List ℕ) (rows row_colours : ℕ) (cc : List ℕ) (columns column_colours memo stack : ℕ) where
  abbrev pub counting : List Rule
  counting = list_rules w h cells rc rows row_colours cc columns column_colours memo stack

  pub counts_known : verdict counting ≡ Ok tt → Known w h cells rc rows row_colours cc columns column_colours memo stack
  counts_known e =
      let a = room_fits w h cells memo stack in
      let b = counts_fit h rc rows row_colours in
      let d = counts_fit w cc columns column_colours in
      let p = append_parts (side_rules w h) (test_rules a b d (crowded rc) (crowded cc)) e in
      let s = sides_fine w h p.0 in
      let t = tested a b d (crowded rc) (crowded cc) p.1 in
      let u = both_true (eqb cells (w * h)) (leb memo_size memo && leb stack_size stack) t.room in
      let v = both_true (leb memo_size memo) (leb stack_size stack) u.1 in
      record {
        wide = s.0;
        wide_most = s.1;
        high = s.2;
        high_most = s.3;
        size = eqb-true _ _ u.0;
        memos = leb-true _ _ v.0;
        stacks = leb-true _ _ v.1;
        row_lists = fitting h rc rows row_colours t.rows;
        column_lists = fitting w cc columns column_colours t.columns;
        row_few = not_above 64 rc t.row_few;
        column_few = not_above 64 cc t.column_few;
      }

-- ---- a card whose rules are kept

module _ (w h cells : ℕ) (c : Card) (memo stack : ℕ) where
  abbrev firsts : List Rule
  firsts =
      counting w h cells c.row_counts (length c.row_sizes) (length c.row_colours) c.column_counts (length c.column_sizes)
      (length c.column_colours) memo stack

  abbrev lasts : List Rule
  lasts = legal_rules (illegal (blocks c.row_sizes c.row_colours)) (illegal (blocks c.column_sizes c.column_colours))

  card_fine : verdict firsts ≡ Ok tt → verdict (card_rules w h cells c memo stack) ≡ verdict lasts
  card_fine e = append_fine firsts lasts e

  module _ (e : verdict (card_rules w h cells c memo stack) ≡ Ok tt) where
    parts : (verdict firsts ≡ Ok tt) × (verdict lasts ≡ Ok tt)
    parts = append_parts firsts lasts e

    pub card_known : Known w h cells c.row_counts (length c.row_sizes) (length c.row_colours) c.column_counts (length c.column_sizes)
        (length c.column_colours) memo stack
    card_known =
        counts_known w h cells c.row_counts (length c.row_sizes) (length c.row_colours) c.column_counts (length c.column_sizes)
        (length c.column_colours) memo stack parts.0

    pub card_right : RightCard w h c
    card_right =
        let k = card_known in
        let r = BadBlock when illegal (blocks c.row_sizes c.row_colours) in
        let s = BadBlock when illegal (blocks c.column_sizes c.column_colours) in
        let p = fine_cons r (s ∷ []) parts.1 in
        record {
          rows =
              record {
                lines = k.row_lists.lines;
                total = k.row_lists.total;
                pairs = k.row_lists.pairs;
                few = k.row_few;
                legal = p.0;
              };
          columns =
              record {
                lines = k.column_lists.lines;
                total = k.column_lists.total;
                pairs = k.column_lists.pairs;
                few = k.column_few;
                legal = (fine_cons s [] p.1).0;
              };
        }

-- there are as many black colours as sizes
black_counts : (w h cells : ℕ) (rc rs cc cs : List ℕ) (memo stack : ℕ)
    → verdict (counting w h cells rc (length rs) (length (blacks rs)) cc (length cs) (length (blacks cs)) memo stack)
    ≡ verdict (counting w h cells rc (length rs) (length rs) cc (length cs) (length cs) memo stack)
black_counts w h cells rc rs cc cs memo stack =
    ap₂ (λ a b. verdict (counting w h cells rc (length rs) a cc (length cs) b memo stack)) (length-map rs (λ n. 2)) (length-map cs (λ n. 2))

-- where the counts are right, sizes alone are legal or not by their black blocks
pub black_fine : (w h cells : ℕ) (rc rs cc cs : List ℕ) (memo stack : ℕ)
    → verdict (counting w h cells rc (length rs) (length rs) cc (length cs) (length cs) memo stack) ≡ Ok tt
    → verdict (card_rules w h cells (black_card rc rs cc cs) memo stack) ≡ verdict (legal_rules (illegal (map black rs)) (illegal (map black cs)))
black_fine w h cells rc rs cc cs memo stack e =
    card_fine w h cells (black_card rc rs cc cs) memo stack (black_counts w h cells rc rs cc cs memo stack ∙ e)
    ∙ ap₂ (λ a b. verdict (legal_rules a b)) (ap illegal (blacks_blocks rs)) (ap illegal (blacks_blocks cs))
