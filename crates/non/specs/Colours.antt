-- Colours of a card: each word has a colour of its own.
use Rattle.std.specs.Prelude.{◌≡◌, List, ◌∷◌, ℕ, ◌*◌, ◌^◌, ◌<◌, get_or}
use Rattle.rules.specs.Colour.{Colour}

-- the colour of a bit: 1, 2, 4 and so on
abbrev pub colour_at : ℕ → ℕ
colour_at b = 1 * 2 ^ b

-- a single colour which is not blank
abbrev pub IsColour : ℕ → Type 0
IsColour c = Colour c × (1 < c)

-- the word of a bit: `.` for that of blank, then the words of the colours; 0 where there is no such colour
abbrev pub word_at : List ℕ → ℕ → ℕ
word_at words b = get_or (46 ∷ words) b 0

-- the word is that of the colour's bit
abbrev pub HasWord : List ℕ → ℕ → ℕ → Type 0
HasWord words c word = (b : ℕ) × (c ≡ colour_at b) × (word_at words b ≡ word)
