-- The statements of the public calls, from what their parts tell.
use Rattle.std.specs.Prelude.{Result, Err, Ok, Some}
use mathlib.Core.Path.{◌≡◌, sym, ◌∙◌}
use mathlib.Core.Bool.{Bool, cond, not}
use mathlib.Core.List.{List, [], ◌∷◌, ◌++◌}
use mathlib.Core.Option.{Option, none, some}
use Prim.Native.Nat.{ℕ, ◌+◌, ◌*◌, ◌≤◌, ◌<◌}
use native.Mathlib.Omega.{arith}
use borrow.Author.Tests.{eq-eqb, lt-ltb, le-ltb, ltb-false, not-false, eqb-true}
use lib.Dec.{eqb, ltb}
use lib.ListN.{length, length-append}
use Rattle.rules.specs.Pbm.{Heading, pixels, raster_rules, read_rules, is_other, decimal, heading_text, pbm_text, ink_rules, write_rules}
use Rattle.std.specs.List.{list_any}
use Rattle.rules.specs.Refusal.{◌when◌, verdict, side_rules, written}
use Rattle.rules.specs.declared.Refusal.{Refusal}
use Rattle.rules.specs.declared.Refusal.TheVariants.{BadLength, BadRoom, BadCode}
use Rattle.std.proofs.lemmas.Option.{none-some}
use Rattle.rules.proofs.Tests.{below?}
use Rattle.rules.proofs.Verdicts.{fine_cons, append_parts, append_bad, sides_fine, sides_bad}
use Rattle.rules.proofs.Replies.{writes_done}
use Rattle.rules.proofs.PbmRounds.{text_length}
use Rattle.loops.proofs.Going.{written_sets}
use Rattle.pbm.specs.Calls.{Reads, WritesPbm}
use Rattle.pbm.specs.Steps.{held, HeadingRead, Inked, Adds}
use Rattle.pbm.specs.declared.Sides.{Sides}
use Rattle.pbm.specs.declared.page.Page.{Page}
use Rattle.pbm.specs.declared.heading.Heading as found

-- ---- reading

module _ {found : Option Heading} {codes : List ℕ} where
  pub reads_refused : {w : Refusal} → verdict (read_rules (length codes) found) ≡ Err w → Reads found codes (Err w) codes
  reads_refused e = record { answers = rw e; leaves = rw e }

pub reads_done : (w h : ℕ) (t codes : List ℕ) {codes' : List ℕ}
    → verdict (read_rules (length codes) (some (record { width = w; height = h; rest = t }))) ≡ Ok tt → codes' ≡ written (pixels t) codes
    → Reads (some (record { width = w; height = h; rest = t })) codes (Ok (record { width = w; height = h })) codes'
reads_done w h t codes e p = record { answers = rw e; leaves = rw e p }

-- ---- sizes that were held to at most 65

held_same : (n : ℕ) → n ≤ 64 → held n ≡ n
held_same n h = rw (le-ltb 64 n h)

held_high : (n : ℕ) → 64 < n → held n ≡ 65
held_high n h = rw (lt-ltb 64 n h)

-- a side above 64 is refused, whatever follows
high_refused : (room w h : ℕ) (t : List ℕ) → (w ≤ 64 → h ≤ 64 → ⊥)
    → verdict (read_rules room (some (record { width = w; height = h; rest = t }))) ≡ Err BadLength
high_refused room w h t n = append_bad (side_rules w h) (raster_rules room (w * h) t) (sides_bad w h (λ g. n g.1 g.3))

module _ {w h : ℕ} {t codes : List ℕ} {r : Result Sides Refusal} {codes' : List ℕ} where
  -- both are refused alike
  refused_alike : {found : Option Heading} → verdict (read_rules (length codes) (some (record { width = w; height = h; rest = t }))) ≡ Err BadLength
      → verdict (read_rules (length codes) found) ≡ Err BadLength
      → Reads (some (record { width = w; height = h; rest = t })) codes r codes' → Reads found codes r codes'
  refused_alike e f g = record { answers = rw f (rw e at g.answers); leaves = rw f (rw e at g.leaves) }

pub reads_held : (w h : ℕ) (t codes : List ℕ) {r : Result Sides Refusal} {codes' : List ℕ}
    → Reads (some (record { width = held w; height = held h; rest = t })) codes r codes'
    → Reads (some (record { width = w; height = h; rest = t })) codes r codes'
reads_held w h t codes {r} {codes'} g = below? 64 w (λ a. high (λ x y. omega arith) (λ x y. omega (arith, held_high w a))) wide
  where
    high : (w ≤ 64 → h ≤ 64 → ⊥) → (held w ≤ 64 → held h ≤ 64 → ⊥) → Reads (some (record { width = w; height = h; rest = t })) codes r codes'
    high n m = refused_alike (high_refused (length codes) (held w) (held h) t m) (high_refused (length codes) w h t n) g

    wide : w ≤ 64 → Reads (some (record { width = w; height = h; rest = t })) codes r codes'
    wide a = below? 64 h (λ b. high (λ x y. omega arith) (λ x y. omega (arith, held_high h b))) (λ b. rw (held_same w a, held_same h b) at g)

-- what was found stands for the heading of the text
pub reads_found : {o : Option Heading} (f : found.Heading) {codes codes' : List ℕ} {r : Result Sides Refusal} → HeadingRead o (Some f)
    → Reads (some (record { width = f.sides.width; height = f.sides.height; rest = f.rest.now })) codes r codes' → Reads o codes r codes'
reads_found {o = none} f e g = absurd (none-some f (sym e))
reads_found {o = some h} f {codes = codes} e g = reads_held h.width h.height h.rest codes (rw (e.width, e.height, e.rest) at g)

-- ---- writing

-- how long the heading is
pub heading_length_lem : (w h : ℕ) → length (heading_text w h) ≡ length (decimal w) + length (decimal h) + 5
heading_length_lem w h =
    omega
    (arith, length-append (decimal w ++ (32 ∷ decimal h)) (10 ∷ []), length-append (decimal w) (32 ∷ decimal h))

module _ (w h : ℕ) (b : List ℕ) (room : ℕ) where
  pub ink_room : length b ≡ w * h → room < length (heading_text w h) + h * (w + 1) → verdict (ink_rules w h b room) ≡ Err BadRoom
  ink_room e n = rw (eq-eqb (length b) (w * h) e, lt-ltb room (length (pbm_text w h b)) (omega (arith, text_length w h b e)))

  pub ink_code : length b ≡ w * h → length (heading_text w h) + h * (w + 1) ≤ room → {t : Bool} → list_any is_other b ≡ t
      → verdict (ink_rules w h b room) ≡ cond t (Err BadCode) (Ok tt)
  ink_code e n q = rw (eq-eqb (length b) (w * h) e, le-ltb room (length (pbm_text w h b)) (omega (arith, text_length w h b e)), q)

  -- no rule is broken
  pub record Writing : Type 0 where
    pub sides : (0 < w) × (w ≤ 64) × (0 < h) × (h ≤ 64)
    pub size : length b ≡ w * h
    pub fits : length (pbm_text w h b) ≤ room
    pub inked : Inked b

  pub writing_fine : verdict (write_rules w h b room) ≡ Ok tt → Writing
  writing_fine e =
      let p = append_parts (side_rules w h) (ink_rules w h b room) e in
      let x = not (eqb (length b) (w * h)) in
      let q = fine_cons (BadRoom when x) (BadRoom when ltb room (length (pbm_text w h b)) ∷ BadCode when list_any is_other b ∷ []) p.1 in
      let r = fine_cons (BadRoom when ltb room (length (pbm_text w h b))) (BadCode when list_any is_other b ∷ []) q.1 in
      record {
        sides = sides_fine w h p.0;
        size = eqb-true (length b) (w * h) (not-false (eqb (length b) (w * h)) q.0);
        fits = ltb-false room (length (pbm_text w h b)) r.0;
        inked = (fine_cons (BadCode when list_any is_other b) [] r.1).0;
      }

-- the whole text was added to an empty page
pub writes_page : (w h : ℕ) (b : List ℕ) {t t' : List ℕ} {n : ℕ} {p q : Page} → verdict (write_rules w h b (length t)) ≡ Ok tt
    → p.text.now ≡ t → p.end ≡ 0 → Adds p (pbm_text w h b) q → n ≡ q.end → t' ≡ q.text.now → WritesPbm w h b t (Ok n) t'
writes_page w h b {t} e x z a l q =
    writes_done e (omega (arith, l, a.end, z)) (q ∙ a.holds ∙ rw (x, z) (written_sets (pbm_text w h b) t (writing_fine w h b (length t) e).fits))
