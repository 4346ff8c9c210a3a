-- Boards: the lent list of cells, row after row, w cells wide and h high; settled boards, the widest of them, and pictures.
-- P says which lists of colours are placements of each line: any set of them will do.
use Rattle.std.specs.Prelude.{◌≡◌, ◌≢◌, List, [], ◌∷◌, ℕ, zero, suc, ◌+◌, ◌*◌, ◌<◌, length, get_or, set}
use Rattle.rules.specs.Colour.{Has, Colour}
use Rattle.rules.specs.Answer.{Shown, Exact, Within}
use Rattle.rules.specs.declared.LinePosition.{LinePosition}
use Rattle.rules.specs.declared.LinePosition.TheVariants.{Row, Column}

-- row y and column x
abbrev pub row : ℕ → LinePosition
row y = Row (record { 0 = y })

abbrev pub column : ℕ → LinePosition
column x = Column (record { 0 = x })

-- how many cells a line has, and whether it is one of the board
abbrev pub len : ℕ → ℕ → LinePosition → ℕ
len w h (Row y) = w
len w h (Column x) = h

abbrev pub On : ℕ → ℕ → LinePosition → Type 0
On w h (Row y) = y.0 < h
On w h (Column x) = x.0 < w

-- the number of the cell at index j of a line: cell (x, y) has the number y × width + x
abbrev pub place : ℕ → LinePosition → ℕ → ℕ
place w (Row y) j = y.0 * w + j
place w (Column x) j = j * w + x.0

-- the line through index j that crosses a line
abbrev pub cross : LinePosition → ℕ → LinePosition
cross (Row y) j = column j
cross (Column x) j = row j

-- f 0, f 1, .. f (n - 1)
abbrev pub tabulate : ℕ → (ℕ → ℕ) → List ℕ
tabulate zero f = []
tabulate (suc n) f = f zero ∷ tabulate n (λ i. f (suc i))

-- a line's cells
unfoldable pub line_of : ℕ → ℕ → List ℕ → LinePosition → List ℕ
line_of w h b l = tabulate (len w h l) (λ j. get_or b (place w l j) 0)

-- the board with the values stored at the places of the indexes j, j + 1, ..
abbrev pub put : (ℕ → ℕ) → ℕ → List ℕ → List ℕ → List ℕ
put at j [] b = b
put at j (a ∷ m) b = put at (suc j) m (set b (at j) a)

-- the board with a line's cells stored
unfoldable pub store : ℕ → LinePosition → List ℕ → List ℕ → List ℕ
store w l m b = put (place w l) 0 m b

-- ---- settled boards

-- no cell of a board is empty
abbrev pub NoneEmpty : List ℕ → Type 0
NoneEmpty b = (i : ℕ) → i < length b → get_or b i 0 ≢ 0

module _ (P : LinePosition → List ℕ → Type 0) (w h : ℕ) where
  -- the colour 2 ^ k at index i of a line is shown by an agreeing placement of that line
  abbrev pub ShownIn : List ℕ → LinePosition → ℕ → ℕ → Type 0
  ShownIn b l i k = Shown (P l) (line_of w h b l) i k

  -- no cell is empty, and every colour in every cell is shown by an agreeing placement of its row and one of its column
  pub record Settled (b : List ℕ) : Type 0 where
    pub size : length b ≡ h * w
    pub filled : (x y : ℕ) → x < w → y < h → get_or b (y * w + x) 0 ≢ 0
    pub shown : (x y : ℕ) → x < w → y < h → (k : ℕ) → Has (get_or b (y * w + x) 0) k → ShownIn b (row y) x k × ShownIn b (column x) y k

  -- a line is stable if solving it is not refused and returns it unchanged
  abbrev pub Stable : List ℕ → LinePosition → Type 0
  Stable b l = Exact (P l) (line_of w h b l) (line_of w h b l)

  -- a picture gives each cell one colour, so that every row and column is a placement of its clue
  pub record Picture (b : List ℕ) : Type 0 where
    pub size : length b ≡ h * w
    pub single : (x y : ℕ) → x < w → y < h → Colour (get_or b (y * w + x) 0)
    pub placed : (l : LinePosition) → On w h l → P l (line_of w h b l)

  -- b lies within b₀, and every settled board within b₀ lies within b
  pub record Kept (b₀ b : List ℕ) : Type 0 where
    pub within : Within b b₀
    pub above : (s : List ℕ) → Settled s → Within s b₀ → Within s b

  -- b is the widest of the settled boards within b₀: the one that all of them lie within
  pub record Widest (b₀ b : List ℕ) : Type 0 where
    pub settled : Settled b
    pub kept : Kept b₀ b

  -- no settled board lies within b₀
  pub record Unsettled (b₀ : List ℕ) : Type 0 where
    pub none : (s : List ℕ) → Settled s → Within s b₀ → ⊥
