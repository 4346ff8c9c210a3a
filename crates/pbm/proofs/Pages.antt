-- What the functions that add to a page leave, and the one invariant of their loops: what is left to write gives the whole.
use mathlib.Core.Path.{◌≡◌, refl, sym, ◌∙◌}
use mathlib.Core.List.{List, [], ◌∷◌, ◌++◌, map}
use Prim.Native.Nat.{ℕ, zero, suc, ◌+◌, ◌*◌, ◌<◌}
use native.Mathlib.Nat.{mul_comm}
use native.Mathlib.Omega.{arith}
use lib.ListN.{length, length-append, length-map, take, drop}
use lib.Seq.{take-append_seam, drop-append_seam}
use Rattle.rules.specs.Pbm.{is_other, digit_of, line_text, rows_text}
use Rattle.rules.proofs.Searching.{any_parts}
use Rattle.loops.specs.Put.{Put}
use Rattle.loops.proofs.Going.{Going, going_start, going_puts, going_done, put_then}
use Rattle.pbm.specs.Steps.{Inked, Room, Adds, RowsRoom}
use Rattle.pbm.specs.declared.Sides.{Sides}
use Rattle.pbm.specs.declared.page.Page.{Page}

put_of : {p q : Page} {vs : List ℕ} → Adds p vs q → Put p.text.now p.end vs q.end q.text.now
put_of a = record { end = a.end; holds = a.holds }

-- some bytes, and then others after them
pub adds_then : {p q r : Page} {us vs : List ℕ} → Adds p us q → Adds q vs r → Adds p (us ++ vs) r
adds_then a b =
    let t = put_then (put_of a) (put_of b) in
    record { same = b.same ∙ a.same; long = b.long ∙ a.long; end = t.end; holds = t.holds }

-- the bytes vs, added to the page p, give what vs₀ give, added to p₀
pub record Left (p₀ : Page) (vs₀ : List ℕ) (p : Page) (vs : List ℕ) : Type 0 where
  pub name : p.text.ghost_name ≡ p₀.text.ghost_name
  pub going : Going p₀.text.now p₀.end vs₀ p.text.now p.end vs

pub left_start : (p : Page) (vs : List ℕ) → Left p vs p vs
left_start p vs = record { name = refl; going = going_start p.text.now p.end vs }

module _ {p₀ : Page} {vs₀ : List ℕ} {p : Page} where
  pub left_adds : {q : Page} {vs xs us : List ℕ} → vs ≡ xs ++ us → Left p₀ vs₀ p vs → Adds p xs q → Left p₀ vs₀ q us
  left_adds e g a = record { name = a.same ∙ g.name; going = going_puts g.going e (put_of a) }

  pub left_done : {vs : List ℕ} → vs ≡ [] → Left p₀ vs₀ p vs → Adds p₀ vs₀ p
  left_done e g = let d = going_done g.going e in record { same = g.name; long = g.going.long; end = d.end; holds = d.holds }

-- ---- rows

-- the codes b are left, so many rows of them, and the page p has room for them
pub record RowsLeft (s : Sides) (b₀ : List ℕ) (p₀ : Page) (b : List ℕ) (p : Page) : Type 0 where
  pub rows : ℕ
  pub size : length b ≡ rows * s.width
  pub inked : Inked b
  pub room : Room p (rows * (s.width + 1))
  pub left : Left p₀ (rows_text s.width s.height b₀) p (rows_text s.width rows b)

pub rows_start : (s : Sides) (b : List ℕ) (p : Page) → RowsRoom s b p → RowsLeft s b p b p
rows_start s b p r = record {
  rows = s.height;
  size = r.size ∙ mul_comm s.width s.height;
  inked = r.inked;
  room = r.room;
  left = left_start _ _;
}

-- a row is left, and the codes after it
record RowLeft (s : Sides) (b₀ : List ℕ) (p₀ : Page) (row rest : List ℕ) (p : Page) : Type 0 where
  pub rows : ℕ
  pub size : length rest ≡ rows * s.width
  pub inked : Inked row × Inked rest
  pub room : Room p (s.width + 1 + rows * (s.width + 1))
  pub left : Left p₀ (rows_text s.width s.height b₀) p (line_text (map digit_of row) ++ rows_text s.width rows rest)

module _ {s : Sides} {b₀ : List ℕ} {p₀ p : Page} (wide : 0 < s.width) where
  row_left : (row rest : List ℕ) → length row ≡ s.width → RowsLeft s b₀ p₀ (row ++ rest) p → RowLeft s b₀ p₀ row rest p
  row_left row rest e g = go g.rows g.size g.room g.left
    where
      go : (n : ℕ) → length (row ++ rest) ≡ n * s.width → Room p (n * (s.width + 1))
          → Left p₀ (rows_text s.width s.height b₀) p (rows_text s.width n (row ++ rest)) → RowLeft s b₀ p₀ row rest p
      go zero q r l = absurd (omega (arith, q, length-append row rest))
      go (suc n) q r l = record {
        rows = n;
        size = omega (arith, q, length-append row rest);
        inked = any_parts is_other row rest g.inked;
        room = omega (arith, r);
        left = let t : take s.width (row ++ rest) ≡ row = rw (sym e) (take-append_seam row rest) in
            let d : drop s.width (row ++ rest) ≡ rest = rw (sym e) (drop-append_seam row rest) in rw (t, d) at l;
      }

  module _ (row rest : List ℕ) (e : length row ≡ s.width) (g : RowsLeft s b₀ p₀ (row ++ rest) p) where
    pub row_fits : Inked row × Room p (length row + 1)
    row_fits = let r = row_left row rest e g in (r.inked.0, omega (arith, r.room))

    pub row_added : {q : Page} → Adds p (line_text (map digit_of row)) q → RowsLeft s b₀ p₀ rest q
    row_added a =
        let r = row_left row rest e g in
        record {
          rows = r.rows;
          size = r.size;
          inked = r.inked.1;
          room = omega (arith, r.room, a.end, a.long, length-append (map digit_of row) (10 ∷ []), length-map row digit_of);
          left = left_adds refl r.left a;
        }

  -- none is left
  pub rows_done : (b : List ℕ) → length b < s.width → RowsLeft s b₀ p₀ b p → Adds p₀ (rows_text s.width s.height b₀) p
  rows_done b h g = go g.rows g.size g.left
    where
      go : (n : ℕ) → length b ≡ n * s.width → Left p₀ (rows_text s.width s.height b₀) p (rows_text s.width n b) → Adds p₀ (rows_text s.width s.height b₀) p
      go zero q l = left_done refl l
      go (suc n) q l = absurd (omega (arith, q))
