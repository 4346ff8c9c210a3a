-- The rules 1 to 4 of a card, and of what is lent with it for a run: the grid, the memo and the stack.
use Rattle.std.specs.Prelude.{Bool, not, ◌&&◌, List, [], ◌∷◌, ◌++◌, ℕ, ◌*◌, eqb, ltb, leb, length}
use Rattle.rules.specs.Block.{blocks, illegal}
use Rattle.std.specs.List.{list_any}
use Rattle.rules.specs.Card.{Card, sum}
use Rattle.rules.specs.Refusal.{Rule, ◌when◌, side_rules, memo_size, stack_size}
use Rattle.rules.specs.declared.Refusal.TheVariants.{BadRoom, TooManyBlocks, BadBlock}

-- one direction's lists: a count for each line, as many sizes as the counts say, and as many colours
abbrev pub counts_fit : ℕ → List ℕ → ℕ → ℕ → Bool
counts_fit lines counts sizes colours = eqb (length counts) lines && (eqb (sum counts) sizes && eqb colours sizes)

-- exactly width × height cells, a memo of at least 65 × 64 bytes and a stack of at least 128 entries
abbrev pub room_fits : ℕ → ℕ → ℕ → ℕ → ℕ → Bool
room_fits w h cells memo stack = eqb cells (w * h) && (leb memo_size memo && leb stack_size stack)

-- some line has more than 64 blocks
abbrev pub crowded : List ℕ → Bool
crowded counts = list_any (λ n. ltb 64 n) counts

-- 1: a side; 2: a list has the wrong length or too little room; 3: a line has too many blocks; 4: a block is not legal
abbrev pub card_rules : ℕ → ℕ → ℕ → Card → ℕ → ℕ → List Rule
card_rules w h cells c memo stack =
    side_rules w h
    ++ (BadRoom when not (room_fits w h cells memo stack)
    ∷ BadRoom when not (counts_fit h c.row_counts (length c.row_sizes) (length c.row_colours))
    ∷ BadRoom when not (counts_fit w c.column_counts (length c.column_sizes) (length c.column_colours))
    ∷ TooManyBlocks when crowded c.row_counts
    ∷ TooManyBlocks when crowded c.column_counts
    ∷ BadBlock when illegal (blocks c.row_sizes c.row_colours)
    ∷ BadBlock when illegal (blocks c.column_sizes c.column_colours)
    ∷ [])
