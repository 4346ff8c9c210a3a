-- The struct that holds a line: what stands where once its blocks and their sums are written.
use mathlib.Core.Path.{◌≡◌, refl, sym, ap, ap₂, ◌∙◌}
use mathlib.Core.Bool.{Bool, true, false, cond}
use mathlib.Core.List.{List}
use Prim.Native.Nat.{ℕ, zero, suc, ◌+◌, ◌-◌, ◌≤◌, ◌<◌}
use native.Mathlib.Numerals.{add-one}
use native.Mathlib.Omega.{arith}
use lib.Dec.{eqb}
use lib.ListN.{length, get_or, set, get_or-eq_default}
use lib.Seq.{get_or-set_same, get_or-set_other}
use Rattle.rules.specs.Block.{Block, ◌of◌}
use Rattle.rules.proofs.Tests.{below?}
use Rattle.filling.specs.declared.HeldLine.{HeldLine}
use Rattle.filling.specs.Filling.{Line, held, trails, gap_after, taken, space}
use Rattle.solver.specs.Steps.{Holds, KeptBut}

-- ---- the blocks

-- the first b blocks are written
pub record Holding (h : HeldLine) (bs : List Block) (h' : HeldLine) (b : ℕ) : Type 0 where
  pub cells_same : h'.cells ≡ h.cells
  pub size_is : (k : ℕ) → k < b → (held h').size k ≡ (get_or bs k (0 of 0)).size
  pub colour_is : (k : ℕ) → k < b → (held h').colour k ≡ (get_or bs k (0 of 0)).colour

-- what stands in the first b entries of a list and at the next, stands in one more
one_more : (f : ℕ → ℕ) (l : List ℕ) (b x : ℕ) → b < length l → ((k : ℕ) → k < b → get_or l k 0 ≡ f k) → x ≡ f b
    → (k : ℕ) → k < b + 1 → get_or (set l b x) k 0 ≡ f k
one_more f l b x r s e k u = below? k b
    (λ v. get_or-set_other l b k x 0 (λ q. omega arith) ∙ s k v)
    (λ v. let q : k ≡ b = omega arith in rw q (get_or-set_same l b x 0 r ∙ e))

module _ {h h' : HeldLine} {bs : List Block} where
  pub holding_more : {b x y : ℕ} → Holding h bs h' b → b < length h'.sizes → b < length h'.colours → x ≡ (get_or bs b (0 of 0)).size → y ≡ (get_or bs b (0 of 0)).colour
      → Holding h bs (record h' { sizes = set h'.sizes b x; colours = set h'.colours b y }) (b + 1)
  holding_more {b} {x} {y} H r s e f = record {
    cells_same = H.cells_same;
    size_is = one_more (λ k. (get_or bs k (0 of 0)).size) h'.sizes b x r H.size_is e;
    colour_is = one_more (λ k. (get_or bs k (0 of 0)).colour) h'.colours b y s H.colour_is f;
  }

  -- all are: the 0 that is written after them is the colour of no block
  pub holds : (n : ℕ) {b : ℕ} → b ≡ length bs → Holding h bs h' b → length h'.cells ≡ 64 → b < length h'.colours → 0 < length h'.sums
      → Holds h n bs (record h' { colours = set h'.colours b 0; sums = set h'.sums 0 0; length = n; count = b })
  holds n {b} e H l s t = record {
    length_is = refl;
    count_is = e;
    cells_same = H.cells_same;
    long = l;
    size_is = λ k u. H.size_is k (omega arith);
    colour_is = λ k u. one_more (λ i. (get_or bs i (0 of 0)).colour) h'.colours b 0 s H.colour_is no_block k (omega arith);
    no_sum = get_or-set_same h'.sums 0 0 0 t;
  }
    where
      no_block : 0 ≡ (get_or bs b (0 of 0)).colour
      no_block = ap (λ (x : Block). x.colour) (sym (get_or-eq_default bs (0 of 0) {n = b} (omega arith)))

-- ---- the least space of the first blocks, one block more at a time

pub cond_le : (t : Bool) → cond t 1 0 ≤ 1
cond_le true = omega arith
cond_le false = omega arith

module _ (L : Line) where
  pub taken_more : (b : ℕ) → taken L (b + 1) ≡ taken L b + L.size b + gap_after L b
  taken_more b = ap (taken L) (add-one b)

  pub space_more : (b : ℕ) → space L (b + 1) ≡ taken L b + L.size b
  space_more b = ap (space L) (add-one b)

  space_taken : (b : ℕ) → space L b ≤ taken L b
  space_taken zero = omega arith
  space_taken (suc b) = omega arith

  pub space_mono : (c d : ℕ) → c ≤ d → space L c ≤ space L d
  space_mono c zero h = let e : c ≡ 0 = omega arith in rw e (omega arith)
  space_mono c (suc d) h = below? c (suc d)
      (λ l. omega (arith, space_mono c d (omega arith), space_taken d))
      (λ l. let e : c ≡ suc d = omega arith in rw e (omega arith))

-- two lines with the same blocks
module _ (L M : Line) (k : ℕ) (sizes : (b : ℕ) → b < k → M.size b ≡ L.size b) (colours : (b : ℕ) → b ≤ k → M.colour b ≡ L.colour b) where
  trails_as : (b : ℕ) → b < k → trails M b ≡ trails L b
  trails_as b h = ap₂ eqb (colours (b + 1) (omega arith)) (colours b (omega arith))

  taken_as : (b : ℕ) → b ≤ k → taken M b ≡ taken L b
  taken_as zero h = refl
  taken_as (suc b) h = rw (taken_as b (omega arith), sizes b (omega arith), trails_as b (omega arith))

  pub space_as : (b : ℕ) → b ≤ k → space M b ≡ space L b
  space_as zero h = refl
  space_as (suc b) h = rw (taken_as b (omega arith), sizes b (omega arith))

-- ---- the sums

-- what stays beside them
module _ {h h' : HeldLine} (K : KeptBut h h') where
  pub kept_cell : (i : ℕ) → (held h').cell i ≡ (held h).cell i
  kept_cell i = ap (λ (x : HeldLine). (held x).cell i) K.same

  pub kept_size : (b : ℕ) → (held h').size b ≡ (held h).size b
  kept_size b = ap (λ (x : HeldLine). (held x).size b) K.same

  pub kept_colour : (b : ℕ) → (held h').colour b ≡ (held h).colour b
  kept_colour b = ap (λ (x : HeldLine). (held x).colour b) K.same

  pub kept_length : h'.length ≡ h.length
  kept_length = ap (λ (x : HeldLine). x.length) K.same

  pub kept_count : h'.count ≡ h.count
  kept_count = ap (λ (x : HeldLine). x.count) K.same

-- after b blocks: the packing has come to `start`, and the sums up to there are written
pub record Summing (h h' : HeldLine) (start b : ℕ) : Type 0 where
  pub kept : KeptBut h h'
  pub at : start ≡ taken (held h) b
  pub low : start ≤ 65
  pub sums : (c : ℕ) → c ≤ b → (held h').sum c ≡ space (held h) c - 1

pub summing_start : (h : HeldLine) → (held h).sum 0 ≡ 0 → Summing h h 0 0
summing_start h z = record {
  kept = record { same = refl };
  at = refl;
  low = omega arith;
  sums = λ c l. let e : c ≡ 0 = omega arith in rw e z;
}

module _ {h h' : HeldLine} {start b : ℕ} (S : Summing h h' start b) (few : b < 64) where
  trails_same : trails (held h') b ≡ trails (held h) b
  trails_same = trails_as (held h) (held h') 64 (λ c l. kept_size S.kept c) (λ c l. kept_colour S.kept c) b few

  -- its packing ends at the least space of the blocks up to it
  pub end_space : start + (held h').size b ≡ space (held h) (b + 1)
  end_space = omega (arith, S.at, kept_size S.kept b, space_more (held h) b)

  module _ (room : ℕ) (is : room ≡ (held h').size b + cond (trails (held h') b) 1 0) (end : ℕ) (ends : end ≡ start + (held h').size b) (low : end ≤ 64)
      (long : length h'.sums ≡ 65) where
    pub summing_more : Summing h (record h' { sums = set h'.sums (b + 1) (end - 1) }) (start + room) (b + 1)
    summing_more = record {
      kept = record { same = ap (λ (x : HeldLine). record x { sums = set h'.sums (b + 1) (end - 1) }) S.kept.same };
      at = (let e : start + room ≡ start + (held h').size b + cond (trails (held h') b) 1 0 = omega arith in e)
          ∙ ap₂ (λ x t. x + cond t 1 0) (ends_at) trails_same
          ∙ sym (taken_more (held h) b);
      low = omega (arith, cond_le (trails (held h') b));
      sums = λ c l. below? b c
          (λ u. let e : c ≡ b + 1 = omega arith in rw e
          (get_or-set_same h'.sums (b + 1) (end - 1) 0 (omega arith) ∙ ap (λ x. x - 1) (ends ∙ end_space)))
          (λ u. get_or-set_other h'.sums (b + 1) c (end - 1) 0 (λ e. omega arith) ∙ S.sums c u);
    }
      where
        ends_at : start + (held h').size b ≡ taken (held h) b + (held h).size b
        ends_at = ap₂ (λ x y. x + y) S.at (kept_size S.kept b)
