-- A text of a picture by rules is what a reader computes from it byte by byte: the sizes, the heading, the raster and the verdict.
use Rattle.std.proofs.lemmas.Bool.{or_parts}
use Rattle.std.specs.Prelude.{Err, Ok}
use Rattle.rules.specs.Refusal.{GoodSides, verdict, side_rules, Verdict}
use mathlib.Core.Path.{◌≡◌, refl, sym, ap, ap₂, subst, ◌∙◌}
use mathlib.Core.Logic.{◌⊎◌, inl, inr}
use mathlib.Core.Bool.{Bool, true, false, cond, not, ◌&&◌}
use mathlib.Core.List.{List, [], ◌∷◌, ◌++◌, append-nil, append_assoc, nil≢cons}
use mathlib.Core.Option.{Option, none, some, none-ne-some, some-injective}
use Prim.Native.Nat.{ℕ, ◌+◌, ◌*◌, ◌-◌, ◌≤◌, ◌<◌}
use native.Mathlib.Omega.{arith}
use borrow.Author.Tests.{eq-eqb, ne_eqb, le-leb, lt-leb, lt-ltb, le-ltb, eqb-true, ltb-true, ltb-false, leb-true, not-true}
use lib.Dec.{eqb, ltb, leb}
use lib.ListN.{length}
use Rattle.std.specs.List.{list_any}
use Rattle.rules.specs.Pbm.{is_space_of, is_digit_of, is_line_end, is_pixel_of, Filler, no_filler, a_space, a_comment, Spaced, Numeral, a_digit, longer, NoDigit, SizeAt, HeadingAt, Raster, no_cell, between, a_white, a_black, Drawn, TextOf, Stage, no_heading, bad_sides, no_room, not_drawn, a_picture, is_plain, past_filler, Sized, digits, numeral_at, size_at, Heading, heading_with, heading_from, heading, pixels, is_stray_of, begins_spaced, is_drawn_of, raster_rules, read_rules, sides_read, codes_read}
use Rattle.rules.specs.declared.Refusal.TheVariants.{BadLength, BadRoom, BadText}
use Rattle.rules.proofs.Tests.{true_not_false, both_true}
use Rattle.rules.proofs.Verdicts.{bad_not_fine, append_bad, append_fine, sides_fine, sides_good, sides_cases, sides_bad}

-- ---- bytes

-- whitespace is no byte that is not
space_apart : (c k : ℕ) → is_space_of c ≡ true → is_space_of k ≡ false → eqb c k ≡ false
space_apart c k p q = ne_eqb c k (λ e. true_not_false (sym p ∙ ap is_space_of e ∙ q))

-- a digit as a number
digit_range : (c : ℕ) → is_digit_of c ≡ true → (48 ≤ c) × (c ≤ 57)
digit_range c e = let p = both_true (leb 48 c) (leb c 57) e in (leb-true 48 c p.0, leb-true c 57 p.1)

is_digit : (d : ℕ) → d < 10 → is_digit_of (48 + d) ≡ true
is_digit d h = rw (le-leb 48 (48 + d) (omega arith), le-leb (48 + d) 57 (omega arith))

-- a digit is neither whitespace nor the beginning of a comment
digit_plain : (c : ℕ) → is_digit_of c ≡ true → is_plain false c ≡ true
digit_plain c e =
    let p = digit_range c e in
    rw (
      ne_eqb c 32 (λ u. omega (arith, p.0)),
      le-leb 9 c (omega (arith, p.0)),
      lt-leb c 13 (omega (arith, p.0)),
      ne_eqb c 35 (λ u. omega (arith, p.0)),
    )

-- ---- whitespace and comments: they are passed over

-- a byte of whitespace, what is left of a comment, and any filler
space_past : (c : ℕ) (t : List ℕ) → is_space_of c ≡ true → past_filler false (c ∷ t) ≡ past_filler false t
space_past c t e = rw (e, space_apart c 35 e refl)

comment_past : (l : List ℕ) (e : ℕ) (t : List ℕ) → list_any is_line_end l ≡ false → is_line_end e ≡ true
    → past_filler true (l ++ (e ∷ t)) ≡ past_filler false t
comment_past [] e t p q = rw q
comment_past (c ∷ l) e t p q = let r = or_parts (is_line_end c) (list_any is_line_end l) p in rw r.0 (comment_past l e t r.1 q)

filler_past : {f : List ℕ} → Filler f → (u : List ℕ) → past_filler false (f ++ u) ≡ past_filler false u
filler_past no_filler u = refl
filler_past (a_space {c = c} {t = t} e d) u = space_past c (t ++ u) e ∙ filler_past d u
filler_past (a_comment l e {t = t} p q d) u =
    ap (past_filler true) (append_assoc l (e ∷ t) u) ∙ comment_past l e (t ++ u) p q ∙ filler_past d u

-- ---- and what is passed over is whitespace and comments

-- the text is filler and this rest
record Filled (text rest : List ℕ) : Type 0 where
  filler : List ℕ
  filled : Filler filler
  is : text ≡ filler ++ rest

-- the text is what is left of a comment, then filler and this rest
record Closed (text rest : List ℕ) : Type 0 where
  comment : List ℕ
  end : ℕ
  filler : List ℕ
  inside : list_any is_line_end comment ≡ false
  ends : is_line_end end ≡ true
  filled : Filler filler
  is : text ≡ comment ++ (end ∷ (filler ++ rest))

-- a comment is open before the text, or none
abbrev Passed : Bool → List ℕ → List ℕ → Type 0
Passed true text rest = Closed text rest
Passed false text rest = Filled text rest

filled_space : {c : ℕ} {t rest : List ℕ} → is_space_of c ≡ true → Filled t rest → Filled (c ∷ t) rest
filled_space {c} e f = record { filler = c ∷ f.filler; filled = a_space e f.filled; is = ap (λ (l : List ℕ). c ∷ l) f.is }

filled_comment : {c : ℕ} {t rest : List ℕ} → c ≡ 35 → Closed t rest → Filled (c ∷ t) rest
filled_comment {rest = rest} e k = record {
  filler = 35 ∷ (k.comment ++ (k.end ∷ k.filler));
  filled = a_comment k.comment k.end k.inside k.ends k.filled;
  is = ap₂ (λ d (l : List ℕ). d ∷ l) e (k.is ∙ sym (append_assoc k.comment (k.end ∷ k.filler) rest));
}

-- the comment ends here
closed_here : {c : ℕ} {t rest : List ℕ} → is_line_end c ≡ true → Filled t rest → Closed (c ∷ t) rest
closed_here {c} e f = record {
  comment = [];
  end = c;
  filler = f.filler;
  inside = refl;
  ends = e;
  filled = f.filled;
  is = ap (λ (l : List ℕ). c ∷ l) f.is;
}

closed_later : {c : ℕ} {t rest : List ℕ} → is_line_end c ≡ false → Closed t rest → Closed (c ∷ t) rest
closed_later {c} e k = record {
  comment = c ∷ k.comment;
  end = k.end;
  filler = k.filler;
  inside = rw e k.inside;
  ends = k.ends;
  filled = k.filled;
  is = ap (λ (l : List ℕ). c ∷ l) k.is;
}

-- where something is left, it is after filler
past_rules : (t : List ℕ) (b : Bool) (c : ℕ) (u : List ℕ) → past_filler b t ≡ c ∷ u → Passed b t (c ∷ u)
past_rules [] b c u e = absurd (nil≢cons e)
past_rules (d ∷ t) true c u e = go (is_line_end d) refl e (λ b q. past_rules t b c u q)
  where
    go : (k : Bool) → is_line_end d ≡ k → past_filler (not k) t ≡ c ∷ u
        → ((b : Bool) → past_filler b t ≡ c ∷ u → Passed b t (c ∷ u)) → Closed (d ∷ t) (c ∷ u)
    go true p q up = closed_here p (up false q)
    go false p q up = closed_later p (up true q)
past_rules (d ∷ t) false c u e = go (is_space_of d) refl (eqb d 35) refl e (λ b q. past_rules t b c u q)
  where
    go : (s : Bool) → is_space_of d ≡ s → (k : Bool) → eqb d 35 ≡ k → cond (not s && not k) (d ∷ t) (past_filler k t) ≡ c ∷ u
        → ((b : Bool) → past_filler b t ≡ c ∷ u → Passed b t (c ∷ u)) → Filled (d ∷ t) (c ∷ u)
    go true p true q v up = absurd (true_not_false (sym q ∙ space_apart d 35 p refl))
    go true p false q v up = filled_space p (up false v)
    go false p true q v up = filled_comment (eqb-true d 35 q) (up true v)
    go false p false q v up = record { filler = []; filled = no_filler; is = v }

-- ---- a numeral is read to its value

-- the text begins with a digit
abbrev DigitFirst : List ℕ → Type 0
DigitFirst [] = ⊥
DigitFirst (c ∷ t) = is_digit_of c ≡ true

digit_first : {n : ℕ} {l : List ℕ} → Numeral n l → DigitFirst l
digit_first (a_digit {d = d} h) = is_digit d h
digit_first (longer {d = d} {t = t} m h) = go t (digit_first m)
  where
    go : (l : List ℕ) → DigitFirst l → DigitFirst (l ++ ((48 + d) ∷ []))
    go [] x = absurd x
    go (c ∷ l) x = x

-- the first digit is where the size begins
first_found : (l t : List ℕ) → DigitFirst l → numeral_at (past_filler false (l ++ t)) ≡ some (digits 0 (l ++ t))
first_found [] t x = absurd x
first_found (c ∷ l) t x = rw (digit_plain c x, x)

-- a digit after digits of value n, a whole numeral, and the end of it
one_digit : (n d : ℕ) (t : List ℕ) → d < 10 → digits n ((48 + d) ∷ t) ≡ digits (n * 10 + d) t
one_digit n d t h = let v : 48 + d - 48 ≡ d = omega arith in rw (is_digit d h, v)

digits_numeral : {n : ℕ} {l : List ℕ} → Numeral n l → (t : List ℕ) → digits 0 (l ++ t) ≡ digits n t
digits_numeral (a_digit {d = d} h) t = one_digit 0 d t h ∙ ap (λ (n : ℕ). digits n t) (omega arith)
digits_numeral (longer {n = n} {d = d} {t = l} m h) t =
    ap (digits 0) (append_assoc l ((48 + d) ∷ []) t) ∙ digits_numeral m ((48 + d) ∷ t) ∙ one_digit n d t h

digits_end : (n : ℕ) (t : List ℕ) → NoDigit t → digits n t ≡ record { value = n; rest = t }
digits_end n [] x = refl
digits_end n (c ∷ t) x = rw x

numeral_computed : {n : ℕ} {l : List ℕ} → Numeral n l → (rest : List ℕ) → NoDigit rest
    → numeral_at (past_filler false (l ++ rest)) ≡ some (record { value = n; rest = rest })
numeral_computed {n} {l} m rest x =
    first_found l rest (digit_first m) ∙ ap (λ (z : Sized). some z) (digits_numeral m rest ∙ digits_end n rest x)

-- ---- and what is read is a numeral

-- the digits l go on in the text, and z is what was read
record Run (l text : List ℕ) (z : Sized) : Type 0 where
  more : List ℕ
  value : Numeral z.value (l ++ more)
  longest : NoDigit z.rest
  is : text ≡ more ++ z.rest

-- a digit, by its byte: alone, and after others
module _ (c : ℕ) (e : is_digit_of c ≡ true) where
  digit_value : (48 + (c - 48) ≡ c) × (c - 48 < 10)
  digit_value = let p = digit_range c e in (omega (arith, p.0), omega (arith, p.1))

  first_digit : Numeral (c - 48) (c ∷ [])
  first_digit = subst (λ (k : ℕ). Numeral (c - 48) (k ∷ [])) digit_value.0 (a_digit digit_value.1)

  next_digit : {n : ℕ} {l : List ℕ} → Numeral n l → Numeral (n * 10 + (c - 48)) (l ++ (c ∷ []))
  next_digit {n} {l} m = subst (λ (k : ℕ). Numeral (n * 10 + (c - 48)) (l ++ (k ∷ []))) digit_value.0 (longer m digit_value.1)

-- reading goes on from a numeral to a longer one
digits_rules : (t : List ℕ) (n : ℕ) (l : List ℕ) → Numeral n l → Run l t (digits n t)
digits_rules [] n l m = record { more = []; value = rw append-nil m; longest = tt; is = refl }
digits_rules (c ∷ t) n l m = go (is_digit_of c) refl (λ q. digits_rules t (n * 10 + (c - 48)) (l ++ (c ∷ [])) q)
  where
    go : (b : Bool) → is_digit_of c ≡ b → (Numeral (n * 10 + (c - 48)) (l ++ (c ∷ [])) → Run (l ++ (c ∷ [])) t (digits (n * 10 + (c - 48)) t))
        → Run l (c ∷ t) (cond b (digits (n * 10 + (c - 48)) t) (record { value = n; rest = c ∷ t }))
    go true e up =
        let r = up (next_digit c e m) in
        record {
          more = c ∷ r.more;
          value = rw (append_assoc l (c ∷ []) r.more) at r.value;
          longest = r.longest;
          is = ap (λ (k : List ℕ). c ∷ k) r.is;
        }
    go false e up = record { more = []; value = rw append-nil m; longest = e; is = refl }

-- ---- a size

-- a size by rules is read with its value and its rest
pub size_computed : {n : ℕ} {text rest : List ℕ} → SizeAt n text rest → size_at text ≡ some (record { value = n; rest = rest })
size_computed {n} {text} {rest} x = rw x.is (go x.filler x.filled x.spaced)
  where
    go : (f : List ℕ) → Filler f → Spaced f → size_at (f ++ (x.numeral ++ rest)) ≡ some (record { value = n; rest = rest })
    go [] d s = absurd s
    go (c ∷ f) d s =
        rw s
        (ap numeral_at (sym (space_past c (f ++ (x.numeral ++ rest)) s) ∙ filler_past d (x.numeral ++ rest))
        ∙ numeral_computed x.value rest x.longest)

-- and a size that is read is one by rules
pub size_rules : (text : List ℕ) (z : Sized) → size_at text ≡ some z → SizeAt z.value text z.rest
size_rules [] z e = absurd (none-ne-some z e)
size_rules (c ∷ t) z e = go (is_space_of c) refl e
  where
    found : is_space_of c ≡ true → (d : ℕ) (u : List ℕ) → is_digit_of d ≡ true → Filled t (d ∷ u) → Run (d ∷ []) u z → SizeAt z.value (c ∷ t) z.rest
    found s d u p f r = record {
      filler = c ∷ f.filler;
      numeral = d ∷ r.more;
      spaced = s;
      filled = a_space s f.filled;
      value = r.value;
      longest = r.longest;
      is = ap (λ (l : List ℕ). c ∷ l) (f.is ∙ ap (λ (l : List ℕ). f.filler ++ (d ∷ l)) r.is);
    }

    run : (d : ℕ) (u : List ℕ) → is_digit_of d ≡ true → digits 0 (d ∷ u) ≡ z → Run (d ∷ []) u z
    run d u p q =
        let v : digits 0 (d ∷ u) ≡ digits (d - 48) u = rw p (ap (λ (n : ℕ). digits n u) (omega arith)) in
        subst (λ (y : Sized). Run (d ∷ []) u y) (sym v ∙ q) (digits_rules u (d - 48) (d ∷ []) (first_digit d p))

    digit : is_space_of c ≡ true → (d : ℕ) (u : List ℕ) → past_filler false t ≡ d ∷ u → (b : Bool) → is_digit_of d ≡ b
        → cond b (some (digits 0 (d ∷ u))) none ≡ some z → SizeAt z.value (c ∷ t) z.rest
    digit s d u f true p q = found s d u p (past_rules t false d u f) (run d u p (some-injective (digits 0 (d ∷ u)) z q))
    digit s d u f false p q = absurd (none-ne-some z q)

    past : is_space_of c ≡ true → (r : List ℕ) → past_filler false t ≡ r → numeral_at r ≡ some z → SizeAt z.value (c ∷ t) z.rest
    past s [] f q = absurd (none-ne-some z q)
    past s (d ∷ u) f q = digit s d u f (is_digit_of d) refl q

    go : (b : Bool) → is_space_of c ≡ b → cond b (numeral_at (past_filler false t)) none ≡ some z → SizeAt z.value (c ∷ t) z.rest
    go true s q = past s (past_filler false t) refl q
    go false s q = absurd (none-ne-some z q)

-- ---- the heading

-- a heading by rules is read with its sizes and its rest
pub heading_computed : {w h : ℕ} {text rest : List ℕ} → HeadingAt w h text rest → heading text ≡ some (record { width = w; height = h; rest = rest })
heading_computed x = rw (x.magic, size_computed x.wide, size_computed x.high)

-- and a heading that is read is one by rules
pub heading_rules : (text : List ℕ) (t : Heading) → heading text ≡ some t → HeadingAt t.width t.height text t.rest
heading_rules [] t e = absurd (none-ne-some t e)
heading_rules (c ∷ []) t e = absurd (none-ne-some t e)
heading_rules (c ∷ d ∷ m) t e = go (eqb c 80 && eqb d 49) refl e
  where
    magic : (eqb c 80 && eqb d 49) ≡ true → c ∷ d ∷ m ≡ 80 ∷ 49 ∷ m
    magic p = let q = both_true (eqb c 80) (eqb d 49) p in ap₂ (λ (a b : ℕ). a ∷ b ∷ m) (eqb-true c 80 q.0) (eqb-true d 49 q.1)

    high : (eqb c 80 && eqb d 49) ≡ true → (z : Sized) → size_at m ≡ some z → (o : Option Sized) → size_at z.rest ≡ o
        → heading_with z.value o ≡ some t → HeadingAt t.width t.height (c ∷ d ∷ m) t.rest
    high p z q none r u = absurd (none-ne-some t u)
    high p z q (some y) r u =
        subst (λ (k : Heading). HeadingAt k.width k.height (c ∷ d ∷ m) k.rest)
        (some-injective (record { width = z.value; height = y.value; rest = y.rest }) t u)
        (record { after_magic = m; after_width = z.rest; magic = magic p; wide = size_rules m z q; high = size_rules z.rest y r })

    wide : (eqb c 80 && eqb d 49) ≡ true → (o : Option Sized) → size_at m ≡ o → heading_from o ≡ some t
        → HeadingAt t.width t.height (c ∷ d ∷ m) t.rest
    wide p none q u = absurd (none-ne-some t u)
    wide p (some z) q u = high p z q (size_at z.rest) refl u

    go : (b : Bool) → (eqb c 80 && eqb d 49) ≡ b → cond b (heading_from (size_at m)) none ≡ some t
        → HeadingAt t.width t.height (c ∷ d ∷ m) t.rest
    go true p u = wide p (size_at m) refl u
    go false p u = absurd (none-ne-some t u)

-- ---- the raster

space_pixel : (c : ℕ) → is_space_of c ≡ true → is_pixel_of c ≡ false
space_pixel c e = rw (space_apart c 48 e refl, space_apart c 49 e refl)

-- a raster by rules has no stray byte, and its codes are those read
pub raster_computed : {codes t : List ℕ} → Raster codes t → (list_any is_stray_of t ≡ false) × (pixels t ≡ codes)
raster_computed no_cell = (refl, refl)
raster_computed (between {c = c} e r) = let u = raster_computed r in (rw e u.0, rw (space_pixel c e) u.1)
raster_computed (a_white r) = let u = raster_computed r in (u.0, ap (λ (l : List ℕ). 1 ∷ l) u.1)
raster_computed (a_black r) = let u = raster_computed r in (u.0, ap (λ (l : List ℕ). 2 ∷ l) u.1)

-- and a text with no stray byte is a raster of the codes read
pub raster_rules_lem : (t : List ℕ) → list_any is_stray_of t ≡ false → Raster (pixels t) t
raster_rules_lem [] e = no_cell
raster_rules_lem (c ∷ t) e =
    let p = or_parts (is_stray_of c) (list_any is_stray_of t) e in
    go (is_space_of c) refl (eqb c 48) refl (eqb c 49) refl p.0 (raster_rules_lem t p.1)
  where
    go : (s : Bool) → is_space_of c ≡ s → (a : Bool) → eqb c 48 ≡ a → (b : Bool) → eqb c 49 ≡ b → (not s && not (cond a true b)) ≡ false
        → Raster (pixels t) t → Raster (pixels (c ∷ t)) (c ∷ t)
    go true p a q b r v up = rw (space_pixel c p) (between p up)
    go false p true q b r v up = rw (eqb-true c 48 q) (a_white up)
    go false p false q true r v up = rw (eqb-true c 49 r) (a_black up)
    go false p false q false r v up = absurd (true_not_false v)

-- whitespace first, as a fact and as a test
spaced_computed : (t : List ℕ) → Spaced t → begins_spaced t ≡ true
spaced_computed [] s = absurd s
spaced_computed (c ∷ t) s = s

spaced_rules : (t : List ℕ) → begins_spaced t ≡ true → Spaced t
spaced_rules [] e = true_not_false (sym e)
spaced_rules (c ∷ t) e = e

-- what follows the height, by rules, passes the test with the codes read
pub drawn_computed : {n : ℕ} {codes t : List ℕ} → Drawn n codes t → (is_drawn_of n t ≡ true) × (pixels t ≡ codes)
drawn_computed {n} {codes} {t} d =
    let r = raster_computed d.raster in
    (rw (spaced_computed t d.spaced, r.0, r.1, eq-eqb (length codes) n d.count), r.1)

-- and what passes the test follows the rules
pub drawn_rules : (n : ℕ) (t : List ℕ) → is_drawn_of n t ≡ true → Drawn n (pixels t) t
drawn_rules n t e =
    let p = both_true (begins_spaced t) (not (list_any is_stray_of t) && eqb (length (pixels t)) n) e in
    let q = both_true (not (list_any is_stray_of t)) (eqb (length (pixels t)) n) p.1 in
    record {
      spaced = spaced_rules t p.0;
      raster = raster_rules_lem t (not-true (list_any is_stray_of t) q.0);
      count = eqb-true (length (pixels t)) n q.1;
    }

-- ---- the stages

-- with good sides what follows the height decides
late : (room : ℕ) {w h : ℕ} {text rest : List ℕ} → HeadingAt w h text rest → GoodSides w h
    → verdict (read_rules room (heading text)) ≡ verdict (raster_rules room (w * h) rest)
late room {w} {h} {rest = rest} x g = rw (heading_computed x) (append_fine (side_rules w h) (raster_rules room (w * h) rest) (sides_good w h g))

-- the stage at which a text is judged fixes the verdict
pub stage_computed : {room : ℕ} {text : List ℕ} {v : Verdict} → Stage room text v → verdict (read_rules room (heading text)) ≡ v
stage_computed {room} {text} (no_heading f) = go (heading text) refl
  where
    go : (o : Option Heading) → heading text ≡ o → verdict (read_rules room o) ≡ Err BadText
    go none e = refl
    go (some t) e = absurd (f t.width t.height t.rest (heading_rules text t e))
stage_computed {room} (bad_sides {w = w} {h = h} {rest = rest} x f) =
    rw (heading_computed x) (append_bad (side_rules w h) (raster_rules room (w * h) rest) (sides_bad w h f))
stage_computed {room} (no_room {w = w} {h = h} x g l) = late room x g ∙ rw (lt-ltb room (w * h) l)
stage_computed {room} (not_drawn {w = w} {h = h} {rest = rest} x g l f) = late room x g ∙ rw (le-ltb room (w * h) l) (go (is_drawn_of (w * h) rest) refl)
  where
    go : (b : Bool) → is_drawn_of (w * h) rest ≡ b → ◌≡◌ {A = Verdict} (cond (not b) (Err BadText) (Ok tt)) (Err BadText)
    go true e = absurd (f (pixels rest) (drawn_rules (w * h) rest e))
    go false e = refl
stage_computed {room} (a_picture {w = w} {h = h} x g l) = late room x.heading g ∙ rw (le-ltb room (w * h) l, (drawn_computed x.drawn).0)

-- and each text is at the stage of its verdict
pub stage_rules : (room : ℕ) (text : List ℕ) → Stage room text (verdict (read_rules room (heading text)))
stage_rules room text = go (heading text) refl
  where
    last : {w h : ℕ} {rest : List ℕ} → HeadingAt w h text rest → GoodSides w h → (a : Bool) → ltb room (w * h) ≡ a
        → (b : Bool) → is_drawn_of (w * h) rest ≡ b → Stage room text (cond a (Err BadRoom) (cond (not b) (Err BadText) (Ok tt)))
    last {w} {h} {rest} x g true p b q = no_room x g (ltb-true room (w * h) p)
    last {w} {h} {rest} x g false p true q =
        a_picture (record { rest = rest; heading = x; drawn = drawn_rules (w * h) rest q }) g (ltb-false room (w * h) p)
    last {w} {h} {rest} x g false p false q =
        not_drawn x g (ltb-false room (w * h) p) (λ codes d. true_not_false (sym (drawn_computed d).0 ∙ q))

    sides : {w h : ℕ} {rest : List ℕ} → HeadingAt w h text rest → (verdict (side_rules w h) ≡ Ok tt) ⊎ (verdict (side_rules w h) ≡ Err BadLength)
        → Stage room text (verdict (side_rules w h ++ raster_rules room (w * h) rest))
    sides {w} {h} {rest} x (inl e) =
        subst (λ (v : Verdict). Stage room text v) (sym (append_fine (side_rules w h) (raster_rules room (w * h) rest) e))
        (last x (sides_fine w h e) (ltb room (w * h)) refl (is_drawn_of (w * h) rest) refl)
    sides {w} {h} {rest} x (inr e) =
        subst (λ (v : Verdict). Stage room text v) (sym (append_bad (side_rules w h) (raster_rules room (w * h) rest) e))
        (bad_sides x (λ g. bad_not_fine (sym e ∙ sides_good w h g)))

    go : (o : Option Heading) → heading text ≡ o → Stage room text (verdict (read_rules room o))
    go none e = no_heading (λ w h rest x. none-ne-some (record { width = w; height = h; rest = rest }) (sym e ∙ heading_computed x))
    go (some t) e = sides (heading_rules text t e) (sides_cases t.width t.height)

-- ---- the picture

-- a text of a picture is read as that picture, so that it is the text of no other
pub text_computed : {w h : ℕ} {codes text : List ℕ} → TextOf w h codes text
    → (sides_read (heading text) ≡ w ∷ h ∷ []) × (codes_read (heading text) ≡ codes)
text_computed x = let e = heading_computed x.heading in (rw e, rw e (drawn_computed x.drawn).1)
