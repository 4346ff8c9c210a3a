-- What holding a line and solving it ask and tell.
use Rattle.std.specs.Prelude.{◌≡◌, Bool, true, false, List, ℕ, ◌-◌, ◌≤◌, ◌<◌, length, get_or, take, replicate}
use Rattle.std.proofs.Math.Option.{Option, none, some}
use Rattle.rules.specs.Block.{Block, ◌of◌, illegal}
use Rattle.rules.specs.Binary.{line_answer}
use Rattle.rules.specs.Refusal.{memo_size}
use Rattle.filling.specs.declared.HeldLine.{HeldLine}
use Rattle.filling.specs.Filling.{held, space}

-- ---- the struct that holds a line

-- the blocks have room in the struct beside the cells
pub record Holdable (n : ℕ) (bs : List Block) : Type 0 where
  pub short : n ≤ 64
  pub few : length bs ≤ 64

-- h' holds the cells that h has, and these blocks; after the last colour stands 0, and so does the sum of no blocks
pub record Holds (h : HeldLine) (n : ℕ) (bs : List Block) (h' : HeldLine) : Type 0 where
  pub length_is : h'.length ≡ n
  pub count_is : h'.count ≡ length bs
  pub cells_same : h'.cells ≡ h.cells
  pub long : length h'.cells ≡ 64
  pub size_is : (b : ℕ) → b < length bs → (held h').size b ≡ (get_or bs b (0 of 0)).size
  pub colour_is : (b : ℕ) → b ≤ length bs → (held h').colour b ≡ (get_or bs b (0 of 0)).colour
  pub no_sum : (held h').sum 0 ≡ 0

-- what the sums are asked of
pub record Summable (h : HeldLine) : Type 0 where
  pub short : h.length ≤ 64
  pub few : h.count ≤ 64
  pub sized : (b : ℕ) → b < h.count → 1 ≤ (held h).size b
  pub no_sum : (held h).sum 0 ≡ 0

-- nothing but the sums has changed
pub record KeptBut (h h' : HeldLine) : Type 0 where
  pub same : h' ≡ record h { sums = h'.sums }

-- r says whether the blocks' least space is within the length; if so the sums are there
pub record Summed (h : HeldLine) (r : Bool) (h' : HeldLine) : Type 0 where
  pub kept : KeptBut h h'
  pub sums : r ≡ true → (b : ℕ) → b ≤ h.count → (held h').sum b ≡ space (held h) b - 1
  pub over : r ≡ false → h.length < space (held h) h.count

-- ---- the whole line

-- the first n bytes of the memo are 0
unfoldable pub Cleared : List ℕ → ℕ → Type 0
Cleared memo n = (i : ℕ) → i < n → get_or memo i 0 ≡ 0

-- what the solver found: a line or none
abbrev pub outcome : Bool → List ℕ → Option (List ℕ)
outcome true m = some m
outcome false m = none

pub record Solvable (n : ℕ) (bs : List Block) (memo work : List ℕ) : Type 0 where
  pub some : 1 ≤ n
  pub fits : Holdable n bs
  pub legal : illegal bs ≡ false
  pub room : memo_size ≤ length memo
  pub clean : work ≡ replicate 64 0

-- r and the first n numbers of `work` tell the answer of the line whose cells are the first n of these
pub record Tried (n : ℕ) (bs : List Block) (cells : List ℕ) (r : Bool) (work : List ℕ) : Type 0 where
  pub tells : line_answer bs (take n cells) ≡ outcome r (take n work)
  pub long : 64 ≤ length work
