-- What the private functions say. A reader of the public calls needs none of it.
use Rattle.std.specs.Prelude.{◌≡◌, cond, false, List, ℕ, ◌+◌, ◌*◌, ◌<◌, ◌≤◌, ltb, length, Option, None, MatchOption}
use Rattle.std.proofs.Math.Option as math
use Rattle.rules.specs.Pbm.{Sized, Heading, is_other}
use Rattle.std.specs.List.{list_any}
use Rattle.std.proofs.lemmas.List.Edits.{sets}
use Rattle.pbm.specs.declared.Sides.{Sides}
use Rattle.pbm.specs.declared.page.Page.{Page}
use Rattle.pbm.specs.declared.numbers.Digits.{Digits}
use Rattle.pbm.specs.declared.heading.Heading as found

-- ---- a size is held to at most 65: those above 64 are all refused alike

abbrev pub held : ℕ → ℕ
held n = cond (ltb 64 n) 65 n

-- the digits z were read: their value, held, and what is left
pub record DigitsRead (z : Sized) (d : Digits) : Type 0 where
  pub value : d.value ≡ held z.value
  pub rest : d.rest.now ≡ z.rest

-- the size o was read, or there is none
abbrev pub SizeRead : math.Option Sized → Option Digits → Type 0
SizeRead math.none r = r ≡ None
SizeRead (math.some z) r = MatchOption r ⊥ (DigitsRead z)

-- the heading h was read: its sides, held, and what is left
pub record HeadingHeld (h : Heading) (f : found.Heading) : Type 0 where
  pub width : f.sides.width ≡ held h.width
  pub height : f.sides.height ≡ held h.height
  pub rest : f.rest.now ≡ h.rest

-- the heading o was read, or there is none
abbrev pub HeadingRead : math.Option Heading → Option found.Heading → Type 0
HeadingRead math.none r = r ≡ None
HeadingRead (math.some h) r = MatchOption r ⊥ (HeadingHeld h)

-- ---- writing

-- every code is 1 or 2
abbrev pub Inked : List ℕ → Type 0
Inked b = list_any is_other b ≡ false

-- there is room for n bytes more
abbrev pub Room : Page → ℕ → Type 0
Room p n = p.end + n ≤ length p.text.now

-- the bytes vs were added to the page p, which is now q: the same text, and what follows them is as it was
pub record Adds (p : Page) (vs : List ℕ) (q : Page) : Type 0 where
  pub same : q.text.ghost_name ≡ p.text.ghost_name
  pub long : length q.text.now ≡ length p.text.now
  pub end : q.end ≡ p.end + length vs
  pub holds : q.text.now ≡ sets p.text.now p.end vs

-- the sides and the codes of a picture, and a page with room for its rows
pub record RowsRoom (s : Sides) (b : List ℕ) (p : Page) : Type 0 where
  pub wide : 0 < s.width
  pub size : length b ≡ s.width * s.height
  pub inked : Inked b
  pub room : Room p (s.height * (s.width + 1))
