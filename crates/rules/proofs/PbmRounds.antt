-- What is written is a text of the picture; a picture that was read has only the codes 1 and 2, so that it may go on to clue generation;
-- the length of a text; and small texts that show the fixed form and the order of judging.
use Rattle.std.proofs.lemmas.Bool.{or_parts}
use Rattle.std.specs.Prelude.{Err, Ok}
use Rattle.rules.specs.Refusal.{GoodSides, verdict, Verdict}
use mathlib.Core.Path.{◌≡◌, refl, ap, subst, ◌∙◌}
use mathlib.Core.Logic.{◌⊎◌, inl, inr}
use mathlib.Core.Bool.{false}
use mathlib.Core.List.{List, [], ◌∷◌, ◌++◌, map, append_assoc}
use Prim.Native.Nat.{ℕ, zero, suc, ◌+◌, ◌*◌, ◌/◌, ◌%◌, ◌<◌}
use native.Mathlib.Nat.{mul_comm}
use native.Mathlib.Omega.{arith}
use borrow.Author.Tests.{eqb-true, not-false, lt-ltb, le-ltb}
use lib.Dec.{eqb}
use lib.ListN.{length, take, drop, length-append, length-map, length-drop, take-append-drop}
use lib.Seq.{length-take-le}
use Rattle.rules.specs.Colour.{Colour}
use Rattle.rules.specs.Answer.{Proper}
use Rattle.std.specs.List.{list_any}
use Rattle.rules.specs.Clue.{bad_code_of}
use Rattle.rules.specs.Pbm.{no_filler, a_space, Numeral, a_digit, longer, HeadingAt, Raster, no_cell, between, a_white, a_black, Drawn, TextOf, heading, read_rules, sides_read, codes_read, line_text, decimal, digit_of, rows_text, heading_text, pbm_text, is_other}
use Rattle.rules.specs.declared.Refusal.TheVariants.{BadLength, BadRoom, BadText}
use Rattle.rules.proofs.Tests.{Compared, nat_eq_cases, below?}
use Rattle.rules.proofs.Searching.{any_parts}
use Rattle.rules.proofs.Codes.{proper_codes}

-- ---- codes that are allowed

-- a code that rule 9 of writing passes is 1 or 2
code_cases : (c : ℕ) → is_other c ≡ false → (c ≡ 1) ⊎ (c ≡ 2)
code_cases c e = go (nat_eq_cases c 1)
  where
    go : Compared c 1 → (c ≡ 1) ⊎ (c ≡ 2)
    go (inl p) = inl p.0
    go (inr p) = inr (eqb-true c 2 (not-false (eqb c 2) (rw p.1 at e)))

-- a raster has no other code, nor has what is drawn: each code of a picture that was read is 1 or 2
raster_codes : {codes t : List ℕ} → Raster codes t → list_any is_other codes ≡ false
raster_codes no_cell = refl
raster_codes (between e r) = raster_codes r
raster_codes (a_white r) = raster_codes r
raster_codes (a_black r) = raster_codes r

pub drawn_codes : {n : ℕ} {codes t : List ℕ} → Drawn n codes t → list_any is_other codes ≡ false
drawn_codes d = raster_codes d.raster

-- each of these is a single colour
codes_proper : (l : List ℕ) → list_any is_other l ≡ false → Proper l
codes_proper [] e = tt
codes_proper (c ∷ l) e = let p = or_parts (is_other c) (list_any is_other l) e in (go (code_cases c p.0), codes_proper l p.1)
  where
    go : (c ≡ 1) ⊎ (c ≡ 2) → Colour c
    go (inl u) = (0, u)
    go (inr u) = (1, u)

-- such codes break no rule 9 of coloured clues, with blank 1
pub codes_coloured : (l : List ℕ) → list_any is_other l ≡ false → bad_code_of 1 l ≡ false
codes_coloured l e = proper_codes l (codes_proper l e)

-- ---- what is written is a text of the picture

-- a number of at most two digits, in decimal
decimal_numeral : (n : ℕ) → n < 100 → Numeral n (decimal n)
decimal_numeral n h = below? n 10 (λ p. rw (lt-ltb n 10 p) (a_digit p)) (λ p. rw (le-ltb n 10 p) two)
  where
    two : Numeral n ((48 + n / 10) ∷ (48 + n % 10) ∷ [])
    two =
        let v : n / 10 * 10 + n % 10 ≡ n = omega arith in
        subst (λ (m : ℕ). Numeral m ((48 + n / 10) ∷ (48 + n % 10) ∷ [])) v (longer (a_digit (omega arith)) (omega arith))

-- the line of the sizes, and what follows it
second_line : (a b t : List ℕ) → line_text (a ++ (32 ∷ b)) ++ t ≡ a ++ (32 ∷ (b ++ (10 ∷ t)))
second_line a b t = append_assoc (a ++ (32 ∷ b)) (10 ∷ []) t ∙ append_assoc a (32 ∷ b) (10 ∷ t)

heading_written : (w h : ℕ) (t : List ℕ) → w < 100 → h < 100 → HeadingAt w h (heading_text w h ++ t) (10 ∷ t)
heading_written w h t p q = record {
  after_magic = 10 ∷ (line_text (decimal w ++ (32 ∷ decimal h)) ++ t);
  after_width = 32 ∷ (decimal h ++ (10 ∷ t));
  magic = refl;
  wide = record {
    filler = 10 ∷ [];
    numeral = decimal w;
    spaced = refl;
    filled = a_space refl no_filler;
    value = decimal_numeral w p;
    longest = refl;
    is = ap (λ (l : List ℕ). 10 ∷ l) (second_line (decimal w) (decimal h) t);
  };
  high = record {
    filler = 32 ∷ [];
    numeral = decimal h;
    spaced = refl;
    filled = a_space refl no_filler;
    value = decimal_numeral h q;
    longest = refl;
    is = refl;
  };
}

-- a row, and then all rows, are a raster of their codes
row_written : (r : List ℕ) {l t : List ℕ} → list_any is_other r ≡ false → Raster l t → Raster (r ++ l) (line_text (map digit_of r) ++ t)
row_written [] e x = between refl x
row_written (c ∷ r) {l} {t} e x =
    let p = or_parts (is_other c) (list_any is_other r) e in
    go (code_cases c p.0) (row_written r p.1 x)
  where
    go : (c ≡ 1) ⊎ (c ≡ 2) → Raster (r ++ l) (line_text (map digit_of r) ++ t) → Raster (c ∷ (r ++ l)) (digit_of c ∷ (line_text (map digit_of r) ++ t))
    go (inl u) y = rw u (a_white y)
    go (inr u) y = rw u (a_black y)

rows_written : (w h : ℕ) (b : List ℕ) → length b ≡ h * w → list_any is_other b ≡ false → Raster b (rows_text w h b)
rows_written w zero [] e i = no_cell
rows_written w zero (c ∷ b) e i = absurd (omega arith)
rows_written w (suc h) b e i =
    let p = any_parts is_other (take w b) (drop w b) (rw (take-append-drop w b) i) in
    let up = rows_written w h (drop w b) (omega (arith, length-drop w b)) p.1 in
    subst (λ (l : List ℕ). Raster l (rows_text w (suc h) b)) (take-append-drop w b) (row_written (take w b) p.0 up)

-- the fixed form is a text of the picture
pub written_text : (w h : ℕ) (b : List ℕ) → GoodSides w h → length b ≡ w * h → list_any is_other b ≡ false → TextOf w h b (pbm_text w h b)
written_text w h b g e i = record {
  rest = 10 ∷ rows_text w h b;
  heading = heading_written w h (rows_text w h b) (omega (arith, g.1)) (omega (arith, g.3));
  drawn = record { spaced = refl; raster = between refl (rows_written w h b (e ∙ mul_comm w h) i); count = e };
}

-- ---- how long it is

-- a row has a byte a cell and its line feed
pub line_length_lem : (r : List ℕ) → length (line_text (map digit_of r)) ≡ length r + 1
line_length_lem r = length-append (map digit_of r) (10 ∷ []) ∙ ap (λ (n : ℕ). n + 1) (length-map r digit_of)

pub rows_length : (w h : ℕ) (b : List ℕ) → length b ≡ h * w → length (rows_text w h b) ≡ h * (w + 1)
rows_length w zero b e = omega arith
rows_length w (suc h) b e =
    let up = rows_length w h (drop w b) (omega (arith, length-drop w b)) in
    let n = length-take-le w b (omega arith) in
    omega (arith, length-append (line_text (map digit_of (take w b))) (rows_text w h (drop w b)), line_length_lem (take w b), n, up)

-- so the length follows from the sides
pub text_length : (w h : ℕ) (b : List ℕ) → length b ≡ w * h → length (pbm_text w h b) ≡ length (heading_text w h) + h * (w + 1)
text_length w h b e =
    length-append (heading_text w h) (rows_text w h b) ∙ ap (λ (n : ℕ). length (heading_text w h) + n) (rows_length w h b (e ∙ mul_comm w h))

-- ---- small texts, written

-- the lines "P1", "2 2", "10", "01"
small_picture : pbm_text 2 2 (2 ∷ 1 ∷ 1 ∷ 2 ∷ []) ≡ 80 ∷ 49 ∷ 10 ∷ 50 ∷ 32 ∷ 50 ∷ 10 ∷ 49 ∷ 48 ∷ 10 ∷ 48 ∷ 49 ∷ 10 ∷ []
small_picture = refl

-- the lines "P1", "64 10"
two_digits : heading_text 64 10 ≡ 80 ∷ 49 ∷ 10 ∷ 54 ∷ 52 ∷ 32 ∷ 49 ∷ 48 ∷ 10 ∷ []
two_digits = refl

-- ---- small texts, judged

-- how a text is judged where there is room for so many codes
abbrev judged : ℕ → List ℕ → Verdict
judged room text = verdict (read_rules room (heading text))

-- "P1 65": the second size is missing, whatever the first
one_size : judged 4096 (80 ∷ 49 ∷ 32 ∷ 54 ∷ 53 ∷ []) ≡ Err BadText
one_size = refl

-- "P1 65 1x": once both sizes are read, they go before any later break
break_after : judged 4096 (80 ∷ 49 ∷ 32 ∷ 54 ∷ 53 ∷ 32 ∷ 49 ∷ 120 ∷ []) ≡ Err BadLength
break_after = refl

-- "P1 65 1": the end of the text ends a size
end_after : judged 4096 (80 ∷ 49 ∷ 32 ∷ 54 ∷ 53 ∷ 32 ∷ 49 ∷ []) ≡ Err BadLength
end_after = refl

-- "P1 2 2": the room goes before the missing raster
room_first : judged 3 (80 ∷ 49 ∷ 32 ∷ 50 ∷ 32 ∷ 50 ∷ []) ≡ Err BadRoom
room_first = refl

-- and with room it is missed
no_raster : judged 4 (80 ∷ 49 ∷ 32 ∷ 50 ∷ 32 ∷ 50 ∷ []) ≡ Err BadText
no_raster = refl

-- "P1 1 11": the height is the longest run of digits
longest_run : sides_read (heading (80 ∷ 49 ∷ 32 ∷ 49 ∷ 32 ∷ 49 ∷ 49 ∷ [])) ≡ 1 ∷ 11 ∷ []
longest_run = refl

-- "P1#c", a line feed, "1 1 1": a comment stands only after whitespace
comment_first : judged 1 (80 ∷ 49 ∷ 35 ∷ 99 ∷ 10 ∷ 49 ∷ 32 ∷ 49 ∷ 32 ∷ 49 ∷ []) ≡ Err BadText
comment_first = refl

-- "P1 1 #1": the comment has no end, and a digit in it is no size
open_comment : judged 0 (80 ∷ 49 ∷ 32 ∷ 49 ∷ 32 ∷ 35 ∷ 49 ∷ []) ≡ Err BadText
open_comment = refl

-- "P1 1 1 #c", a line feed, "1": a comment stands only before a size
late_comment : judged 1 (80 ∷ 49 ∷ 32 ∷ 49 ∷ 32 ∷ 49 ∷ 32 ∷ 35 ∷ 99 ∷ 10 ∷ 49 ∷ []) ≡ Err BadText
late_comment = refl

-- "P1", VT, "#c", CR, "#", LF, "02", TAB, "1", FF, "1 0", CR, LF: a picture
spaced_picture : List ℕ
spaced_picture = 80 ∷ 49 ∷ 11 ∷ 35 ∷ 99 ∷ 13 ∷ 35 ∷ 10 ∷ 48 ∷ 50 ∷ 9 ∷ 49 ∷ 12 ∷ 49 ∷ 32 ∷ 48 ∷ 13 ∷ 10 ∷ []

a_spaced_picture : (judged 2 spaced_picture ≡ Ok tt) × (sides_read (heading spaced_picture) ≡ 2 ∷ 1 ∷ []) × (codes_read (heading spaced_picture) ≡ 2 ∷ 1 ∷ [])
unfolding spaced_picture
a_spaced_picture = (refl, refl, refl)
