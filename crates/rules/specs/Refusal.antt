-- Refusals: the documents' numbers, the rules of a call in their order, and what a call leaves in the lists that it is lent.
use Rattle.std.specs.Prelude.{◌≡◌, ⊤, Bool, true, false, cond, not, ◌&&◌, ℕ, ◌<◌, ◌≤◌, eqb, ltb, leb, length, drop, Result, Ok, Err}
use mathlib.Core.List.{List, [], ◌∷◌, ◌++◌, Memᴰ}
use Rattle.rules.specs.Block.{Block, Lent, illegal, sizes_by, colours_by}
use Rattle.rules.specs.Packing.{minimal_space}
use Rattle.std.specs.List.{list_any}
use Rattle.rules.specs.declared.Refusal.{Refusal}
use Rattle.rules.specs.declared.Refusal.TheVariants.{BadLength, BadRoom, TooManyBlocks, BadBlock, BadCell, OutsideGrid, ShortReport, BadCode, NoSpace, BadText}

-- the table's numbers
abbrev pub refusal_number_of : Refusal → ℕ
refusal_number_of BadLength = 1
refusal_number_of BadRoom = 2
refusal_number_of TooManyBlocks = 3
refusal_number_of BadBlock = 4
refusal_number_of BadCell = 5
refusal_number_of OutsideGrid = 6
refusal_number_of ShortReport = 7
refusal_number_of BadCode = 9
refusal_number_of NoSpace = 10
refusal_number_of BadText = 11

-- ---- working memory: a memo of 65 × 64 bytes, and a stack that holds every line of a board of 64 × 64 once

abbrev pub memo_size : ℕ
memo_size = 4160

abbrev pub stack_size : ℕ
stack_size = 128

-- ---- rules

-- what the rules say of an input: nothing, or the first that is broken
abbrev pub Verdict : Type 0
Verdict = Result ⊤ Refusal

-- a rule of a call: its refusal, and whether the input breaks it
pub record Rule : Type 0 where
  pub refusal : Refusal
  pub broken : Bool

abbrev pub ◌when◌ : Refusal → Bool → Rule
◌when◌ w t = record { refusal = w; broken = t }

infix 90 ◌when◌
-- several apply: the first that is broken, and so the lowest number where the rules ascend
abbrev pub verdict : List Rule → Verdict
verdict [] = Ok tt
verdict (r ∷ rs) = cond r.broken (Err r.refusal) (verdict rs)

-- the rules' numbers ascend, from n on
abbrev pub ascending : ℕ → List Rule → Bool
ascending n [] = true
ascending n (r ∷ rs) = leb n (refusal_number_of r.refusal) && ascending (refusal_number_of r.refusal) rs

-- w is the lowest number of a rule that is broken
pub record Lowest (rs : List Rule) (w : Refusal) : Type 0 where
  pub rule : Rule
  pub among : Memᴰ rule rs
  pub is : rule.refusal ≡ w
  pub broken : rule.broken ≡ true
  pub lower : (r : Rule) → Memᴰ r rs → refusal_number_of r.refusal < refusal_number_of w → r.broken ≡ false

-- 1: a length, or a side, is 0 or above 64
abbrev pub length_rules : ℕ → List Rule
length_rules n = BadLength when eqb n 0 ∷ BadLength when ltb 64 n ∷ []

-- both sides of a grid are 1 to 64; and the rules that say so
abbrev pub GoodSides : ℕ → ℕ → Type 0
GoodSides w h = (0 < w) × (w ≤ 64) × (0 < h) × (h ≤ 64)

abbrev pub side_rules : ℕ → ℕ → List Rule
side_rules w h = length_rules w ++ length_rules h

-- 2: the lists of blocks have unequal lengths, or a list to write has too little room; 3: more than 64 blocks
abbrev pub count_rules : Bool → ℕ → Bool → List Rule
count_rules paired count roomy = BadRoom when not paired ∷ BadRoom when not roomy ∷ TooManyBlocks when ltb 64 count ∷ []

-- a list has room for an entry a block
abbrev pub roomy : Lent → List ℕ → Bool
roomy b out = leb (length b.list) (length out)

-- the same of a line's blocks; 4: a block is not legal
abbrev pub block_rules : Lent → Bool → List Rule
block_rules b roomy = count_rules b.paired (length b.list) roomy ++ (BadBlock when illegal b.list ∷ [])

-- 5: a binary cell is above 2
abbrev pub cell_rules : List ℕ → List Rule
cell_rules cells = BadCell when list_any (λ c. ltb 2 c) cells ∷ []

-- 10: the blocks need more than the length
abbrev pub space_rules : ℕ → Lent → List Rule
space_rules n b = NoSpace when ltb n (minimal_space b.list) ∷ []

-- ---- what a call answers and leaves

-- the number, then the values that come with 0
abbrev pub reply : Verdict → List ℕ → List ℕ
reply (Ok _) values = 0 ∷ values
reply (Err w) values = refusal_number_of w ∷ []

-- the same of an answer that counts entries
abbrev pub list_reply : Result ℕ Refusal → List ℕ
list_reply (Ok n) = 0 ∷ n ∷ []
list_reply (Err w) = refusal_number_of w ∷ []

-- a list after the values vs were written to it: the entries after them stay
abbrev pub written : List ℕ → List ℕ → List ℕ
written vs out = vs ++ drop (length vs) out

-- a lent list after a call: a refusal leaves it as it stood
abbrev pub left : Verdict → List ℕ → List ℕ → List ℕ
left (Ok _) vs out = written vs out
left (Err w) vs out = out

-- ---- the statement of a call that writes lists: its answer, and each list after it

-- one list, to which the values vs are written if no rule is broken
pub record Writes (rules : List Rule) (vs out : List ℕ) (r : Result ℕ Refusal) (out' : List ℕ) : Type 0 where
  pub answers : list_reply r ≡ reply (verdict rules) (length vs ∷ [])
  pub leaves : out' ≡ left (verdict rules) vs out

-- two lists, for the sizes and the colours of blocks
pub record WritesBlocks (rules : List Rule) (bs : List Block) (sizes colours : List ℕ) (r : Result ℕ Refusal) (sizes' colours' : List ℕ) : Type 0 where
  pub answers : list_reply r ≡ reply (verdict rules) (length bs ∷ [])
  pub size_list : sizes' ≡ left (verdict rules) (sizes_by bs) sizes
  pub colour_list : colours' ≡ left (verdict rules) (colours_by bs) colours
