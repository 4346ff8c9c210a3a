-- What the functions of this crate say of the lists of a card.
use Rattle.std.specs.Prelude.{◌≡◌, Bool, false, not, List, [], ◌∷◌, ◌++◌, ℕ, ◌≤◌, length, get_or}
use Rattle.rules.specs.Block.{blocks, illegal}
use Rattle.rules.specs.Board.{On}
use Rattle.rules.specs.Card.{Card, card_of, black_card, sum, part}
use Rattle.rules.specs.CardRules.{counts_fit, room_fits, crowded}
use Rattle.rules.specs.Refusal.{Rule, ◌when◌, side_rules}
use Rattle.rules.specs.declared.LinePosition.{LinePosition}
use Rattle.rules.specs.declared.LinePosition.TheVariants.{Row, Column}
use Rattle.rules.specs.declared.Refusal.TheVariants.{BadRoom, TooManyBlocks, BadBlock}
use Rattle.card.specs.declared.parts.BlackCard.{BlackCard}
use Rattle.card.specs.declared.parts.Card.{Card as Lent}

-- ---- the lists as they are lent

-- the card of the six lists
abbrev pub lent_card : Lent → Card
lent_card c =
    card_of c.row_counts.now c.row_sizes.now c.row_colours.now c.column_counts.now c.column_sizes.now c.column_colours.now

-- the card of the four lists of a binary one
abbrev pub lent_black_card : BlackCard → Card
lent_black_card c = black_card c.row_counts.now c.row_sizes.now c.column_counts.now c.column_sizes.now

-- ---- a line's part

-- the part of the row list or of the column list that belongs to a line
abbrev pub part_of : LinePosition → List ℕ → List ℕ → List ℕ → List ℕ → List ℕ
part_of (Row y) rc rows cc columns = part rc y.0 rows
part_of (Column x) rc rows cc columns = part cc x.0 columns

-- at most 64 counts, which say how long the list is
pub record Counts (counts list : List ℕ) : Type 0 where
  pub lines : length counts ≤ 64
  pub total : sum counts ≡ length list

-- the sizes and the colours of a line
abbrev pub sizes_at : LinePosition → Card → List ℕ
sizes_at l c = part_of l c.row_counts c.row_sizes c.column_counts c.column_sizes

abbrev pub colours_at : LinePosition → Card → List ℕ
colours_at l c = part_of l c.row_counts c.row_colours c.column_counts c.column_colours

-- what is asked so that a line's parts can be cut out: it is a line of the card, whose lists are as long as the counts say
pub record Cut (l : LinePosition) (c : Card) : Type 0 where
  pub on : On (length c.column_counts) (length c.row_counts) l
  pub row_sizes : Counts c.row_counts c.row_sizes
  pub row_colours : Counts c.row_counts c.row_colours
  pub column_sizes : Counts c.column_counts c.column_sizes
  pub column_colours : Counts c.column_counts c.column_colours

-- ---- the rules, by the outcomes of their tests

-- rules 2 and 3
abbrev pub test_rules : Bool → Bool → Bool → Bool → Bool → List Rule
test_rules roomy rowsFit columnsFit rowsCrowded columnsCrowded =
    BadRoom when not roomy
    ∷ BadRoom when not rowsFit
    ∷ BadRoom when not columnsFit
    ∷ TooManyBlocks when rowsCrowded
    ∷ TooManyBlocks when columnsCrowded
    ∷ []

-- rules 1 to 3, by the counts and the other lists' lengths
abbrev pub list_rules : ℕ → ℕ → ℕ → List ℕ → ℕ → ℕ → List ℕ → ℕ → ℕ → ℕ → ℕ → List Rule
list_rules w h cells rc rows row_colours cc columns column_colours memo stack =
    side_rules w h
    ++ test_rules (room_fits w h cells memo stack) (counts_fit h rc rows row_colours) (counts_fit w cc columns column_colours) (crowded rc) (crowded cc)

-- rule 4
abbrev pub legal_rules : Bool → Bool → List Rule
legal_rules badRow badColumn = BadBlock when badRow ∷ BadBlock when badColumn ∷ []

-- ---- what the rules leave

-- one direction's lists are right
pub record Direction (n : ℕ) (counts sizes colours : List ℕ) : Type 0 where
  pub lines : length counts ≡ n
  pub total : sum counts ≡ length sizes
  pub pairs : length colours ≡ length sizes
  pub few : (i : ℕ) → get_or counts i 0 ≤ 64
  pub legal : illegal (blocks sizes colours) ≡ false

-- and so are both directions'
pub record RightCard (w h : ℕ) (c : Card) : Type 0 where
  pub rows : Direction h c.row_counts c.row_sizes c.row_colours
  pub columns : Direction w c.column_counts c.column_sizes c.column_colours
