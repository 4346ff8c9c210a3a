-- What each public call of this crate promises of a grid of w by h codes: 1, 2, and 9 of colours. e is the blank code.
use Rattle.std.specs.Prelude.{◌≡◌, Bool, ◌&&◌, List, [], ◌∷◌, ◌++◌, ℕ, ◌*◌, eqb, leb, length, take, Result, Ok, Err}
use Rattle.rules.specs.Block.{Block, sizes_by, colours_by}
use Rattle.rules.specs.Clue.{clue, bad_code_of, black_clue}
use Rattle.rules.specs.Card.{Card, card_of, black_card, row_clues_of, column_clues_of, gathered, count_of}
use Rattle.rules.specs.Refusal.{refusal_number_of, Rule, verdict, side_rules, reply, left}
use Rattle.clue.specs.Calls.{room_rules, code_rules}
use Rattle.rules.specs.declared.Refusal.{Refusal}
use Rattle.picture.specs.declared.Totals.{Totals}

-- exactly width × height codes; room for one count a line, and for width × height blocks a direction
abbrev pub grid_fits : ℕ → ℕ → ℕ → ℕ → ℕ → ℕ → ℕ → Bool
grid_fits w h codes row_counts row_sizes column_counts column_sizes =
    eqb codes (w * h) && (leb h row_counts && (leb (w * h) row_sizes && (leb w column_counts && leb (w * h) column_sizes)))

-- the rules of coloured clues: both sides are judged first
abbrev pub grid_rules : ℕ → ℕ → Bool → Bool → List Rule
grid_rules w h fits bad = side_rules w h ++ code_rules fits bad

-- the number of an answer, and its values: the blocks written for the rows, and for the columns
abbrev pub clues_reply : Result Totals Refusal → List ℕ
clues_reply (Ok t) = 0 ∷ t.rows ∷ t.columns ∷ []
clues_reply (Err w) = refusal_number_of w ∷ []

abbrev pub totals : ℕ → ℕ → Totals
totals rows columns = record { rows = rows; columns = columns }

-- In what follows rc, rs and rt are the lists of the rows' counts, sizes and colours, and cc, cs and ct those of the columns.

-- the answer, and the lists of counts and sizes after the call
pub record GridLists (rules : List Rule) (rows columns : List (List Block)) (rc rs cc cs : List ℕ) (r : Result Totals Refusal) (rc' rs' cc' cs' : List ℕ) : Type 0 where
  pub answers : clues_reply r ≡ reply (verdict rules) (length (gathered sizes_by rows) ∷ length (gathered sizes_by columns) ∷ [])
  pub row_counts : rc' ≡ left (verdict rules) (gathered count_of rows) rc
  pub row_sizes : rs' ≡ left (verdict rules) (gathered sizes_by rows) rs
  pub column_counts : cc' ≡ left (verdict rules) (gathered count_of columns) cc
  pub column_sizes : cs' ≡ left (verdict rules) (gathered sizes_by columns) cs

-- the lists of colours after the call
pub record GridColours (rules : List Rule) (rows columns : List (List Block)) (rt ct rt' ct' : List ℕ) : Type 0 where
  pub row_colours : rt' ≡ left (verdict rules) (gathered colours_by rows) rt
  pub column_colours : ct' ≡ left (verdict rules) (gathered colours_by columns) ct

-- the rules of binary clues, and of coloured ones, whose lists of colours need room too
abbrev pub binary_clues_rules : ℕ → ℕ → List ℕ → List ℕ → List ℕ → List ℕ → List ℕ → List Rule
binary_clues_rules w h b rc rs cc cs = side_rules w h ++ room_rules (grid_fits w h (length b) (length rc) (length rs) (length cc) (length cs))

abbrev pub coloured_clues_rules : ℕ → ℕ → ℕ → List ℕ → List ℕ → List ℕ → List ℕ → List ℕ → List ℕ → List ℕ → List Rule
coloured_clues_rules e w h b rc rs rt cc cs ct =
    grid_rules w h
    (grid_fits w h (length b) (length rc) (length rs) (length cc) (length cs) && (leb (w * h) (length rt) && leb (w * h) (length ct)))
    (bad_code_of e b)

-- the clues of a binary picture, and of a coloured one
abbrev pub BinaryClues : ℕ → ℕ → ℕ → List ℕ → List ℕ → List ℕ → List ℕ → List ℕ → Result Totals Refusal → List ℕ → List ℕ → List ℕ → List ℕ → Type 0
BinaryClues e w h b rc rs cc cs = GridLists (binary_clues_rules w h b rc rs cc cs) (row_clues_of (black_clue e) w h b) (column_clues_of (black_clue e) w h b) rc rs cc cs

pub record ColouredClues (e w h : ℕ) (b rc rs rt cc cs ct : List ℕ) (r : Result Totals Refusal) (rc' rs' rt' cc' cs' ct' : List ℕ) : Type 0 where
  pub lists : GridLists (coloured_clues_rules e w h b rc rs rt cc cs ct) (row_clues_of (clue e) w h b) (column_clues_of (clue e) w h b) rc rs cc cs r rc' rs' cc' cs'
  pub colours : GridColours (coloured_clues_rules e w h b rc rs rt cc cs ct) (row_clues_of (clue e) w h b) (column_clues_of (clue e) w h b) rt ct rt' ct'

-- ---- the clues of a card, as a reader of the lists takes them: as many entries of each as the answer and the sides say

abbrev pub card_in : ℕ → ℕ → ℕ → ℕ → List ℕ → List ℕ → List ℕ → List ℕ → List ℕ → List ℕ → Card
card_in w h rows columns rc rs rt cc cs ct = card_of (take h rc) (take rows rs) (take rows rt) (take w cc) (take columns cs) (take columns ct)

-- the same of binary lists
abbrev pub black_card_in : ℕ → ℕ → ℕ → ℕ → List ℕ → List ℕ → List ℕ → List ℕ → Card
black_card_in w h rows columns rc rs cc cs = black_card (take h rc) (take rows rs) (take w cc) (take columns cs)
