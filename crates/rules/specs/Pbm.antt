-- Plain PBM, byte by byte: what the text of a picture is, by rules and as a reader computes it, and the one form in which a picture is
-- written. The digit 1 is black, code 2; the digit 0 is white, code 1.
use Rattle.std.specs.Prelude.{◌≡◌, Bool, true, false, cond, not, ◌&&◌, List, [], ◌∷◌, ◌++◌, map, ℕ, zero, suc, ◌+◌, ◌*◌, ◌-◌, ◌/◌, ◌%◌, ◌≤◌, ◌<◌, eqb, ltb, leb, length, take, drop, Err, Ok}
use Rattle.rules.specs.Refusal.{Rule, ◌when◌, GoodSides, side_rules, Verdict}
use Rattle.std.proofs.Math.Option.{Option, none, some}
use Rattle.std.specs.List.{list_any}
use Rattle.rules.specs.declared.Refusal.TheVariants.{BadLength, BadRoom, BadCode, BadText}

-- ---- bytes

-- whitespace: space, TAB, LF, VT, FF, CR
abbrev pub is_space_of : ℕ → Bool
is_space_of c = cond (eqb c 32) true (leb 9 c && leb c 13)

abbrev pub is_digit_of : ℕ → Bool
is_digit_of c = leb 48 c && leb c 57

-- a comment ends with its line, at LF or CR
abbrev pub is_line_end : ℕ → Bool
is_line_end c = cond (eqb c 10) true (eqb c 13)

-- a cell of the picture: the digit 0 or the digit 1
abbrev pub is_pixel_of : ℕ → Bool
is_pixel_of c = cond (eqb c 48) true (eqb c 49)

-- ---- by rules

-- whitespace and comments in any order; a comment runs from # to the next LF or CR, which counts as whitespace
pub data Filler : List ℕ → Type 0 where
  no_filler : Filler []
  a_space : {c : ℕ} {t : List ℕ} → is_space_of c ≡ true → Filler t → Filler (c ∷ t)
  a_comment : (l : List ℕ) (e : ℕ) {t : List ℕ} → list_any is_line_end l ≡ false → is_line_end e ≡ true → Filler t → Filler (35 ∷ (l ++ (e ∷ t)))

-- the text begins with whitespace
abbrev pub Spaced : List ℕ → Type 0
Spaced [] = ⊥
Spaced (c ∷ t) = is_space_of c ≡ true

-- digits, with their value: a digit more makes ten times the number and that digit
pub data Numeral : ℕ → List ℕ → Type 0 where
  a_digit : {d : ℕ} → d < 10 → Numeral d ((48 + d) ∷ [])
  longer : {n d : ℕ} {t : List ℕ} → Numeral n t → d < 10 → Numeral (n * 10 + d) (t ++ ((48 + d) ∷ []))

-- no digit comes next
abbrev pub NoDigit : List ℕ → Type 0
NoDigit [] = Unit {0}
NoDigit (c ∷ t) = is_digit_of c ≡ false

-- a size of value n at the front of the text: whitespace, more of it and comments, then a longest run of digits
pub record SizeAt (n : ℕ) (text rest : List ℕ) : Type 0 where
  pub filler : List ℕ
  pub numeral : List ℕ
  pub spaced : Spaced filler
  pub filled : Filler filler
  pub value : Numeral n numeral
  pub longest : NoDigit rest
  pub is : text ≡ filler ++ (numeral ++ rest)

-- the text begins with P1, the width and the height
pub record HeadingAt (w h : ℕ) (text rest : List ℕ) : Type 0 where
  pub after_magic : List ℕ
  pub after_width : List ℕ
  pub magic : text ≡ 80 ∷ 49 ∷ after_magic
  pub wide : SizeAt w after_magic after_width
  pub high : SizeAt h after_width rest

-- digits 0 and 1 with whitespace anywhere, and the codes that they stand for
pub data Raster : List ℕ → List ℕ → Type 0 where
  no_cell : Raster [] []
  between : {c : ℕ} {l t : List ℕ} → is_space_of c ≡ true → Raster l t → Raster l (c ∷ t)
  a_white : {l t : List ℕ} → Raster l t → Raster (1 ∷ l) (48 ∷ t)
  a_black : {l t : List ℕ} → Raster l t → Raster (2 ∷ l) (49 ∷ t)

-- what follows the height: whitespace, then n cells, then only whitespace
pub record Drawn (n : ℕ) (codes text : List ℕ) : Type 0 where
  pub spaced : Spaced text
  pub raster : Raster codes text
  pub count : length codes ≡ n

-- the text is one of the picture of w by h codes
pub record TextOf (w h : ℕ) (codes text : List ℕ) : Type 0 where
  pub rest : List ℕ
  pub heading : HeadingAt w h text rest
  pub drawn : Drawn (w * h) codes rest

-- how a text is judged where there is room for so many codes, stage by stage: 11 for a break before both sizes are read; then 1, then 2 for
-- the room; then 11 for any other break
pub data Stage (room : ℕ) (text : List ℕ) : Verdict → Type 0 where
  no_heading : ((w h : ℕ) (rest : List ℕ) → HeadingAt w h text rest → ⊥) → Stage room text (Err BadText)
  bad_sides : {w h : ℕ} {rest : List ℕ} → HeadingAt w h text rest → (GoodSides w h → ⊥) → Stage room text (Err BadLength)
  no_room : {w h : ℕ} {rest : List ℕ} → HeadingAt w h text rest → GoodSides w h → room < w * h → Stage room text (Err BadRoom)
  not_drawn : {w h : ℕ} {rest : List ℕ} → HeadingAt w h text rest → GoodSides w h → w * h ≤ room → ((codes : List ℕ) → Drawn (w * h) codes rest → ⊥)
      → Stage room text (Err BadText)
  a_picture : {w h : ℕ} {codes : List ℕ} → TextOf w h codes text → GoodSides w h → w * h ≤ room → Stage room text (Ok tt)

-- ---- the same computed, byte by byte

-- a byte that is neither whitespace nor part of a comment; the flag: a comment is open before it, and after it
abbrev pub is_plain : Bool → ℕ → Bool
is_plain true c = false
is_plain false c = not (is_space_of c) && not (eqb c 35)

abbrev pub commented : Bool → ℕ → Bool
commented true c = not (is_line_end c)
commented false c = eqb c 35

-- what is left after whitespace and comments: nothing where a comment has no end
abbrev pub past_filler : Bool → List ℕ → List ℕ
past_filler b [] = []
past_filler b (c ∷ t) = cond (is_plain b c) (c ∷ t) (past_filler (commented b c) t)

-- a size that was read: its value, and what is left
pub record Sized : Type 0 where
  pub value : ℕ
  pub rest : List ℕ

-- the longest run of digits, n being the value of those before
abbrev pub digits : ℕ → List ℕ → Sized
digits n [] = record { value = n; rest = [] }
digits n (c ∷ t) = cond (is_digit_of c) (digits (n * 10 + (c - 48)) t) (record { value = n; rest = c ∷ t })

abbrev pub numeral_at : List ℕ → Option Sized
numeral_at [] = none
numeral_at (c ∷ t) = cond (is_digit_of c) (some (digits 0 (c ∷ t))) none

abbrev pub size_at : List ℕ → Option Sized
size_at [] = none
size_at (c ∷ t) = cond (is_space_of c) (numeral_at (past_filler false t)) none

-- both sizes, and what is left
pub record Heading : Type 0 where
  pub width : ℕ
  pub height : ℕ
  pub rest : List ℕ

abbrev pub heading_with : ℕ → Option Sized → Option Heading
heading_with w none = none
heading_with w (some z) = some (record { width = w; height = z.value; rest = z.rest })

abbrev pub heading_from : Option Sized → Option Heading
heading_from none = none
heading_from (some z) = heading_with z.value (size_at z.rest)

abbrev pub heading : List ℕ → Option Heading
heading [] = none
heading (c ∷ []) = none
heading (c ∷ d ∷ t) = cond (eqb c 80 && eqb d 49) (heading_from (size_at t)) none

-- the codes of the digits 0 and 1
abbrev pub code_of : ℕ → ℕ
code_of c = c - 47

abbrev pub pixels : List ℕ → List ℕ
pixels [] = []
pixels (c ∷ t) = cond (is_pixel_of c) (code_of c ∷ pixels t) (pixels t)

-- a byte that no raster has
abbrev pub is_stray_of : ℕ → Bool
is_stray_of c = not (is_space_of c) && not (is_pixel_of c)

abbrev pub begins_spaced : List ℕ → Bool
begins_spaced [] = false
begins_spaced (c ∷ t) = is_space_of c

abbrev pub is_drawn_of : ℕ → List ℕ → Bool
is_drawn_of n t = begins_spaced t && (not (list_any is_stray_of t) && eqb (length (pixels t)) n)

-- the rules of reading, stage by stage: on what follows the height, where n cells are wanted; and all of them
abbrev pub raster_rules : ℕ → ℕ → List ℕ → List Rule
raster_rules room n t = BadRoom when ltb room n ∷ BadText when not (is_drawn_of n t) ∷ []

abbrev pub read_rules : ℕ → Option Heading → List Rule
read_rules room none = BadText when true ∷ []
read_rules room (some t) = side_rules t.width t.height ++ raster_rules room (t.width * t.height) t.rest

-- the sides and the codes of what was read
abbrev pub sides_read : Option Heading → List ℕ
sides_read none = []
sides_read (some t) = t.width ∷ t.height ∷ []

abbrev pub codes_read : Option Heading → List ℕ
codes_read none = []
codes_read (some t) = pixels t.rest

-- ---- writing: one fixed form

-- a line of the text ends with one line feed
abbrev pub line_text : List ℕ → List ℕ
line_text l = l ++ (10 ∷ [])

-- a number of at most two digits
abbrev pub decimal : ℕ → List ℕ
decimal n = cond (ltb n 10) ((48 + n) ∷ []) ((48 + n / 10) ∷ (48 + n % 10) ∷ [])

abbrev pub digit_of : ℕ → ℕ
digit_of c = c + 47

-- each row without spaces
abbrev pub rows_text : ℕ → ℕ → List ℕ → List ℕ
rows_text w zero b = []
rows_text w (suc h) b = line_text (map digit_of (take w b)) ++ rows_text w h (drop w b)

-- P1; width, one space, height
abbrev pub heading_text : ℕ → ℕ → List ℕ
heading_text w h = line_text (80 ∷ 49 ∷ []) ++ line_text (decimal w ++ (32 ∷ decimal h))

abbrev pub pbm_text : ℕ → ℕ → List ℕ → List ℕ
pbm_text w h b = heading_text w h ++ rows_text w h b

-- 9: a code other than 1 and 2
abbrev pub is_other : ℕ → Bool
is_other c = cond (eqb c 1) false (not (eqb c 2))

-- the rules on codes, where the text has so much room; and all rules of writing
abbrev pub ink_rules : ℕ → ℕ → List ℕ → ℕ → List Rule
ink_rules w h b room =
    BadRoom when not (eqb (length b) (w * h)) ∷ BadRoom when ltb room (length (pbm_text w h b)) ∷ BadCode when list_any is_other b ∷ []

abbrev pub write_rules : ℕ → ℕ → List ℕ → ℕ → List Rule
write_rules w h b room = side_rules w h ++ ink_rules w h b room
