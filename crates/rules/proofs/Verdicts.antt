-- What a verdict tells: it names the lowest number of a broken rule, and a call's reply tells its answer.
use Rattle.std.specs.Prelude.{Err, Ok}
use Rattle.rules.specs.Refusal.{refusal_number_of, Rule, ◌when◌, verdict, ascending, Lowest, length_rules, GoodSides, side_rules, count_rules, block_rules, cell_rules, Verdict}
use mathlib.Core.Path.{◌≡◌, refl, sym, ap, subst, ◌∙◌}
use mathlib.Core.Logic.{◌⊎◌, inl, inr, ⊎_elim}
use mathlib.Core.Bool.{Bool, true, false, cond, not}
use mathlib.Core.List.Memᴰ
use mathlib.Core.List.{List, [], ◌∷◌, ◌++◌, map, Memᴰ}
use Prim.Native.Nat.{ℕ, ◌≤◌, ◌<◌}
use native.Mathlib.Omega.{arith}
use borrow.Author.Tests.{ne_eqb, le-ltb, eqb-false, ltb-false, not-false, leb-true, eqb-true}
use lib.Dec.{eqb, ltb, leb}
use lib.ListN.{length, get_or, length-map}
use Rattle.rules.specs.Block.{Lent, black, blocks, coloured, binary, illegal}
use Rattle.std.specs.List.{list_any}
use Rattle.rules.specs.declared.Refusal.{Refusal}
use Rattle.rules.specs.declared.Refusal.TheVariants.{BadLength, BadRoom, TooManyBlocks, BadBlock, BadCell}
use Rattle.rules.proofs.Searching.{not_above}
use Rattle.rules.proofs.Tests.{Compared, both_true, nat_eq_cases}
use Rattle.rules.proofs.Blocks.{length_blocks}

pub bad_not_fine : {w : Refusal} → ◌≡◌ {A = Verdict} (Err w) (Ok tt) → ⊥
bad_not_fine e = let z : ◌≡◌ {A = ℕ} 0 1 = cc in omega arith

pub bad_one : {w u : Refusal} → ◌≡◌ {A = Verdict} (Err w) (Err u) → w ≡ u
bad_one e = cc

-- ---- a verdict names the lowest number of a broken rule, and there is none exactly if no rule is broken

module _ (r : Rule) (rs : List Rule) where
  pub fine_cons : verdict (r ∷ rs) ≡ Ok tt → (r.broken ≡ false) × (verdict rs ≡ Ok tt)
  fine_cons e = go r.broken e
    where
      go : (t : Bool) → cond t (Err r.refusal) (verdict rs) ≡ Ok tt → (t ≡ false) × (verdict rs ≡ Ok tt)
      go true q = absurd (bad_not_fine q)
      go false q = (refl, q)

pub verdict_fine : (rs : List Rule) → verdict rs ≡ Ok tt → (r : Rule) → Memᴰ r rs → r.broken ≡ false
verdict_fine [] e r m = absurd (Memᴰ.not-nil m)
verdict_fine (q ∷ rs) e r m = go (fine_cons q rs e) (verdict_fine rs) (Memᴰ.cases_cons m)
  where
    go : (q.broken ≡ false) × (verdict rs ≡ Ok tt) → (verdict rs ≡ Ok tt → (r : Rule) → Memᴰ r rs → r.broken ≡ false)
        → (r ≡ q) ⊎ Memᴰ r rs → r.broken ≡ false
    go p up (inl u) = ap (λ (x : Rule). x.broken) u ∙ p.0
    go p up (inr n) = up p.1 r n

-- no rule has a number below the first
ascending_low : (n : ℕ) (rs : List Rule) → ascending n rs ≡ true → (r : Rule) → Memᴰ r rs → n ≤ refusal_number_of r.refusal
ascending_low n [] e r m = absurd (Memᴰ.not-nil m)
ascending_low n (q ∷ rs) e r m =
    go (both_true (leb n (refusal_number_of q.refusal)) (ascending (refusal_number_of q.refusal) rs) e)
    (λ a. ascending_low (refusal_number_of q.refusal) rs a) (Memᴰ.cases_cons m)
  where
    go : (leb n (refusal_number_of q.refusal) ≡ true) × (ascending (refusal_number_of q.refusal) rs ≡ true)
        → (ascending (refusal_number_of q.refusal) rs ≡ true → (r : Rule) → Memᴰ r rs → refusal_number_of q.refusal ≤ refusal_number_of r.refusal)
        → (r ≡ q) ⊎ Memᴰ r rs → n ≤ refusal_number_of r.refusal
    go p up (inl u) = subst (λ (x : Rule). n ≤ refusal_number_of x.refusal) (sym u) (leb-true n (refusal_number_of q.refusal) p.0)
    go p up (inr k) = omega (arith, leb-true n (refusal_number_of q.refusal) p.0, up p.1 r k)

pub verdict_lowest : (n : ℕ) (rs : List Rule) {w : Refusal} → ascending n rs ≡ true → verdict rs ≡ Err w → Lowest rs w
verdict_lowest n [] a e = absurd (bad_not_fine (sym e))
verdict_lowest n (q ∷ rs) {w} a e =
    go q.broken refl e (both_true (leb n (refusal_number_of q.refusal)) (ascending (refusal_number_of q.refusal) rs) a).1
    (λ b u. verdict_lowest (refusal_number_of q.refusal) rs b u)
  where
    go : (t : Bool) → q.broken ≡ t → cond t (Err q.refusal) (verdict rs) ≡ Err w → ascending (refusal_number_of q.refusal) rs ≡ true
        → (ascending (refusal_number_of q.refusal) rs ≡ true → verdict rs ≡ Err w → Lowest rs w) → Lowest (q ∷ rs) w
    go true b u s up =
        record { rule = q; among = Memᴰ.head refl; is = bad_one u; broken = b; lower = λ r m h. absurd (low r h (Memᴰ.cases_cons m)) }
      where
        low : (r : Rule) → refusal_number_of r.refusal < refusal_number_of w → (r ≡ q) ⊎ Memᴰ r rs → ⊥
        low r h (inl v) = omega (arith, ap (λ (x : Rule). refusal_number_of x.refusal) v, ap refusal_number_of (bad_one u))
        low r h (inr m) = omega (arith, ascending_low (refusal_number_of q.refusal) rs s r m, ap refusal_number_of (bad_one u))
    go false b u s up =
        let l = up s u in
        record
        { rule = l.rule; among = Memᴰ.tail l.among; is = l.is; broken = l.broken; lower = λ r m h. low r h (Memᴰ.cases_cons m) }
      where
        low : (r : Rule) → refusal_number_of r.refusal < refusal_number_of w → (r ≡ q) ⊎ Memᴰ r rs → r.broken ≡ false
        low r h (inl v) = ap (λ (x : Rule). x.broken) v ∙ b
        low r h (inr m) = (up s u).lower r m h

-- ---- rules one after the other

-- the first of two verdicts that is not fine
abbrev pub ◌then◌ : Verdict → Verdict → Verdict
◌then◌ (Ok _) v = v
◌then◌ (Err w) v = Err w

infixr 30 ◌then◌
pub verdict_append : (xs ys : List Rule) → verdict (xs ++ ys) ≡ verdict xs then verdict ys
verdict_append [] ys = refl
verdict_append (r ∷ xs) ys = go r.broken (verdict_append xs ys)
  where
    go : (t : Bool) → verdict (xs ++ ys) ≡ verdict xs then verdict ys
        → cond t (Err r.refusal) (verdict (xs ++ ys)) ≡ cond t (Err r.refusal) (verdict xs) then verdict ys
    go true e = refl
    go false e = e

pub then_fine : (u v : Verdict) → u then v ≡ Ok tt → (u ≡ Ok tt) × (v ≡ Ok tt)
then_fine (Ok _) v e = (refl, e)
then_fine (Err w) v e = absurd (bad_not_fine e)

-- a list of rules after another: the first that is broken decides
module _ (xs ys : List Rule) where
  pub append_bad : {w : Refusal} → verdict xs ≡ Err w → verdict (xs ++ ys) ≡ Err w
  append_bad e = verdict_append xs ys ∙ rw e

  pub append_fine : verdict xs ≡ Ok tt → verdict (xs ++ ys) ≡ verdict ys
  append_fine e = verdict_append xs ys ∙ rw e

  pub append_parts : verdict (xs ++ ys) ≡ Ok tt → (verdict xs ≡ Ok tt) × (verdict ys ≡ Ok tt)
  append_parts e = then_fine (verdict xs) (verdict ys) (sym (verdict_append xs ys) ∙ e)

-- ---- what no refusal tells

pub length_fine : (n : ℕ) → verdict (length_rules n) ≡ Ok tt → (0 < n) × (n ≤ 64)
length_fine n e =
    let a = fine_cons (BadLength when eqb n 0) (BadLength when ltb 64 n ∷ []) e in
    let z = eqb-false n 0 a.0 in
    (omega (arith, z), ltb-false 64 n (fine_cons (BadLength when ltb 64 n) [] a.1).0)

pub sides_fine : (w h : ℕ) → verdict (side_rules w h) ≡ Ok tt → GoodSides w h
sides_fine w h q =
    let a = append_parts (length_rules w) (length_rules h) q in
    let x = length_fine w a.0 in
    let y = length_fine h a.1 in
    (x.0, x.1, y.0, y.1)

pub sides_good : (w h : ℕ) → GoodSides w h → verdict (side_rules w h) ≡ Ok tt
sides_good w h g = rw (ne_eqb w 0 (λ e. omega (arith, g.0)), le-ltb 64 w g.1, ne_eqb h 0 (λ e. omega (arith, g.2)), le-ltb 64 h g.3)

-- both sides are allowed, or the refusal is 1
pub sides_cases : (w h : ℕ) → (verdict (side_rules w h) ≡ Ok tt) ⊎ (verdict (side_rules w h) ≡ Err BadLength)
sides_cases w h = go (eqb w 0) (ltb 64 w) (eqb h 0) (ltb 64 h)
  where
    go : (a b c d : Bool)
        → (verdict (BadLength when a ∷ BadLength when b ∷ BadLength when c ∷ BadLength when d ∷ []) ≡ Ok tt)
        ⊎ (verdict (BadLength when a ∷ BadLength when b ∷ BadLength when c ∷ BadLength when d ∷ []) ≡ Err BadLength)
    go true b c d = inr refl
    go false true c d = inr refl
    go false false true d = inr refl
    go false false false true = inr refl
    go false false false false = inl refl

pub sides_bad : (w h : ℕ) → ((0 < w) × (w ≤ 64) × (0 < h) × (h ≤ 64) → ⊥) → verdict (side_rules w h) ≡ Err BadLength
sides_bad w h n = ⊎_elim (λ e. absurd (n (sides_fine w h e))) (λ e. e) (sides_cases w h)

-- what the rules on lists of blocks leave
pub record Counted (paired : Bool) (count : ℕ) (roomy : Bool) : Type 0 where
  pub one_length : paired ≡ true
  pub room : roomy ≡ true
  pub few : count ≤ 64

pub count_fine : (paired : Bool) (count : ℕ) (roomy : Bool) → verdict (count_rules paired count roomy) ≡ Ok tt → Counted paired count roomy
count_fine paired count roomy e =
    let r3 = TooManyBlocks when ltb 64 count in
    let p = fine_cons (BadRoom when not paired) (BadRoom when not roomy ∷ r3 ∷ []) e in
    let q = fine_cons (BadRoom when not roomy) (r3 ∷ []) p.1 in
    record { one_length = not-false paired p.0; room = not-false roomy q.0; few = ltb-false 64 count (fine_cons r3 [] q.1).0 }

-- what the rules on blocks leave
pub record Blocked (b : Lent) (roomy : Bool) : Type 0 where
  pub counted : Counted b.paired (length b.list) roomy
  pub legal : illegal b.list ≡ false

pub blocks_fine : (b : Lent) (roomy : Bool) → verdict (block_rules b roomy) ≡ Ok tt → Blocked b roomy
blocks_fine b roomy e =
    let rs = count_rules b.paired (length b.list) roomy in
    let r4 = BadBlock when illegal b.list in
    let p = append_parts rs (r4 ∷ []) e in
    record { counted = count_fine b.paired (length b.list) roomy p.0; legal = (fine_cons r4 [] p.1).0 }

-- no cell is above 2
pub cells_fine : (cells : List ℕ) → verdict (cell_rules cells) ≡ Ok tt → (i : ℕ) → get_or cells i 0 ≤ 2
cells_fine cells e = not_above 2 cells (fine_cons (BadCell when list_any (λ c. ltb 2 c) cells) [] e).0

pub pair_fine : (ns cs : List ℕ) (roomy : Bool) → verdict (block_rules (coloured ns cs) roomy) ≡ Ok tt → (length ns ≡ length cs) × (length ns ≤ 64)
pair_fine ns cs roomy e =
    let k = blocks_fine (coloured ns cs) roomy e in
    let q = eqb-true (length ns) (length cs) k.counted.one_length in
    (q, omega (arith, k.counted.few, length_blocks ns cs q))

-- a size is as good as a block to count: where their numbers differ, the lists have unequal lengths
pub count_same : (ns cs : List ℕ) (f : ℕ → Bool)
    → verdict (count_rules (eqb (length ns) (length cs)) (length (blocks ns cs)) (f (length (blocks ns cs))))
    ≡ verdict (count_rules (eqb (length ns) (length cs)) (length ns) (f (length ns)))
count_same ns cs f = go (nat_eq_cases (length ns) (length cs))
  where
    go : Compared (length ns) (length cs)
        → verdict (count_rules (eqb (length ns) (length cs)) (length (blocks ns cs)) (f (length (blocks ns cs))))
        ≡ verdict (count_rules (eqb (length ns) (length cs)) (length ns) (f (length ns)))
    go (inl p) = ap (λ n. verdict (count_rules (eqb (length ns) (length cs)) n (f n))) (length_blocks ns cs p.0)
    go (inr p) = rw p.1

module _ (ns cs : List ℕ) where
  -- the rules on blocks, by the number of sizes
  pub blocks_split : (f : ℕ → Bool) → verdict (block_rules (coloured ns cs) (f (length (blocks ns cs))))
      ≡ verdict (count_rules (eqb (length ns) (length cs)) (length ns) (f (length ns))) then verdict (BadBlock when illegal (blocks ns cs) ∷ [])
  blocks_split f =
      verdict_append (count_rules (eqb (length ns) (length cs)) (length (blocks ns cs)) (f (length (blocks ns cs))))
      (BadBlock when illegal (blocks ns cs) ∷ [])
      ∙ ap (λ v. v then verdict (BadBlock when illegal (blocks ns cs) ∷ [])) (count_same ns cs f)

  -- room for each size is room for each block
  pub room_same : (f : ℕ → Bool)
      → verdict (block_rules (coloured ns cs) (f (length (blocks ns cs)))) ≡ verdict (block_rules (coloured ns cs) (f (length ns)))
  room_same f = blocks_split f ∙ sym (blocks_split (λ n. f (length ns)))

-- the same of black blocks
pub black_split : (ns : List ℕ) (roomy : Bool) → verdict (block_rules (binary ns) roomy)
    ≡ verdict (count_rules true (length ns) roomy) then verdict (BadBlock when illegal (map black ns) ∷ [])
black_split ns roomy =
    verdict_append (count_rules true (length (map black ns)) roomy) (BadBlock when illegal (map black ns) ∷ [])
    ∙ ap (λ n. verdict (count_rules true n roomy) then verdict (BadBlock when illegal (map black ns) ∷ [])) (length-map ns black)
