-- Settled boards, and what solving and storing a line keeps of them, for any set of placements of each line.
use mathlib.Core.Path.{◌≡◌, refl, sym, ◌∙◌}
use mathlib.Core.Logic.{◌⊎◌, inl, inr, ⊎_elim, ◌≢◌}
use mathlib.Core.List.{List}
use Prim.Native.Nat.{ℕ, ◌+◌, ◌*◌, ◌<◌}
use native.Mathlib.Omega.{arith}
use lib.ListN.{length, get_or}
use Rattle.rules.specs.Colour.{Has, Subset}
use Rattle.rules.specs.Answer.{Fitting, Shown, Exact, Refused, Proper, Within, join}
use Rattle.rules.specs.declared.LinePosition.{LinePosition}
use Rattle.rules.specs.Board.{row, column, len, On, place, line_of, store, Settled, Stable, Picture, Kept, Widest, Unsettled}
use Rattle.rules.proofs.Colours.{subset_refl, has_nonzero, some_colour, has_or, has_left, has_right, has_pow}
use Rattle.rules.proofs.Answers.{within_refl, within_trans, within_antisym, get_or-join, length-join, wider, shown_wider, shown_has, narrows, again, within_agrees, full}
use Rattle.rules.specs.declared.LinePosition.TheVariants.{Row, Column}
use Rattle.rules.proofs.Boards.{length_line, get_or_line, line_end, line_within, length_store, store_at, store_other, line_store, find}

pub within_join_left : (s t : List ℕ) → length s ≡ length t → Within s (join s t)
within_join_left s t e = record { long = e ∙ sym (length-join s t e); each = λ i k g. rw get_or-join (has_left (get_or t i 0) g) }

pub within_join_right : (s t : List ℕ) → length s ≡ length t → Within t (join s t)
within_join_right s t e = record { long = sym (length-join s t e); each = λ i k g. rw get_or-join (has_right (get_or s i 0) g) }

-- ---- steps

module _ {P : LinePosition → List ℕ → Type 0} (w h : ℕ) (proper : (l : LinePosition) (p : List ℕ) → P l p → Proper p) where
  -- a cell by its column and row; each line shows what a settled board has
  pub settled_shown : {s : List ℕ} → Settled P w h s → (l : LinePosition) → On w h l → (i k : ℕ) → Has (get_or (line_of w h s l) i 0) k
      → Shown (P l) (line_of w h s l) i k
  settled_shown {s} z (Row y) o i k g =
      let p = line_end w h s (Row y) i k g in (z.shown i y.0 p o k (rw (get_or_line w h s (Row y) i p) at g)).0
  settled_shown {s} z (Column x) o i k g =
      let p = line_end w h s (Column x) i k g in (z.shown x.0 i o p k (rw (get_or_line w h s (Column x) i p) at g)).1

  -- a line's answer, stored, leaves every settled board within
  module _ (l : LinePosition) (o : On w h l) (b m : List ℕ) (x : Exact (P l) (line_of w h b l) m) (size : length b ≡ h * w) where
    long : length m ≡ len w h l
    long = x.long ∙ length_line w h b l

    pub step_size : length (store w l m b) ≡ h * w
    step_size = length_store w h l m b ∙ size

    pub step_narrows : Within (store w l m b) b
    step_narrows =
        record { long = length_store w h l m b; each = λ c. go c (find (place w l) (len w h l) c) }
      where
        go : (c : ℕ) → ((i : ℕ) × (i < len w h l) × (c ≡ place w l i)) ⊎ ((i : ℕ) → i < len w h l → c ≢ place w l i)
            → Subset (get_or (store w l m b) c 0) (get_or b c 0)
        go c (inl (i, p, e)) = rw (e, store_at w h l o m b long size i p, ← get_or_line w h b l i p) ((narrows (proper l) x).each i)
        go c (inr f) = rw (store_other w h l o m b long size c f) (subset_refl (get_or b c 0))

    pub step_keeps : {s : List ℕ} → Settled P w h s → Within s b → Within s (store w l m b)
    step_keeps {s} z u =
        record { long = u.long ∙ sym (length_store w h l m b); each = λ c. go c (find (place w l) (len w h l) c) }
      where
        go : (c : ℕ) → ((i : ℕ) × (i < len w h l) × (c ≡ place w l i)) ⊎ ((i : ℕ) → i < len w h l → c ≢ place w l i)
            → Subset (get_or s c 0) (get_or (store w l m b) c 0)
        go c (inl (i, p, e)) = rw (e, store_at w h l o m b long size i p)
            (λ k g. x.whole i k (shown_wider (proper l) (line_within w h l u) (settled_shown z l o i k (rw (get_or_line w h s l i p) g))))
        go c (inr f) = rw (store_other w h l o m b long size c f) (u.each c)

    pub step_stable : Stable P w h (store w l m b) l
    step_stable = rw (line_store w h l o m b long size) (again (proper l) x)

    pub step_kept : {b₀ : List ℕ} → Kept P w h b₀ b → Kept P w h b₀ (store w l m b)
    step_kept q = record { within = within_trans step_narrows q.within; above = λ s z u. step_keeps z (q.above s z u) }

  -- ---- refusals and settled boards

  module _ (wide : 0 < w) (high : 0 < h) where
    -- a settled board has a colour in each line
    some_shown : {s : List ℕ} → Settled P w h s → (l : LinePosition) → On w h l → (p : List ℕ) × Fitting (P l) (line_of w h s l) p
    some_shown {s} z (Row y) o =
        let r = some_colour (get_or s (y.0 * w + 0) 0) (z.filled 0 y.0 wide o) in
        let t = (z.shown 0 y.0 wide o r.0 r.1).0 in (t.by, t.ok)
    some_shown {s} z (Column x) o =
        let r = some_colour (get_or s (0 * w + x.0) 0) (z.filled x.0 0 o high) in
        let t = (z.shown x.0 0 o high r.0 r.1).1 in (t.by, t.ok)

    pub refusal_unsettled : {b₀ b : List ℕ} → Kept P w h b₀ b → (l : LinePosition) → On w h l → Refused (P l) (line_of w h b l) → Unsettled P w h b₀
    refusal_unsettled q l o r =
        record { none = λ s z u. let f = some_shown z l o in r.never f.0 (wider (proper l) (line_within w h l (q.above s z u)) f.1) }

  -- where every line is stable the board is settled
  pub stable_settled : {b : List ℕ} → length b ≡ h * w → ((l : LinePosition) → On w h l → Stable P w h b l) → Settled P w h b
  stable_settled {b} size st =
      record {
        size = size;
        filled =
            λ x y p q. has_nonzero
            (rw (get_or_line w h b (row y) x p) at (full (proper (row y)) (st (row y) q) x (omega (arith, length_line w h b (row y)))).1);
        shown = λ x y p q k g.
            ((st (row y) q).sound x k (rw (get_or_line w h b (row y) x p) g), (st (column x) p).sound y k (rw (get_or_line w h b (column x) y q) g));
      }

  pub settled_stable : {b : List ℕ} → 0 < w → 0 < h → Settled P w h b → (l : LinePosition) → On w h l → Stable P w h b l
  settled_stable {b} wide high z l o =
      record { long = refl; any = some_shown wide high z l o; sound = settled_shown z l o; whole = λ i k s. shown_has (proper l) s }

  -- ---- the widest settled board

  pub settled_join : {s t : List ℕ} → Settled P w h s → Settled P w h t → Settled P w h (join s t)
  settled_join {s} {t} u v =
      let e = u.size ∙ sym v.size in
      let l = within_join_left s t e in
      let r = within_join_right s t e in
      record {
        size = length-join s t e ∙ v.size;
        filled = λ x y p q. let c = some_colour (get_or s (y * w + x) 0) (u.filled x y p q) in has_nonzero (l.each (y * w + x) c.0 c.1);
        shown = λ x y p q k g.
            ⊎_elim
            (λ a. let d = u.shown x y p q k a in (
              shown_wider (proper (row y)) (line_within w h (row y) l) d.0,
              shown_wider (proper (column x)) (line_within w h (column x) l)
                  d.1,
            ))
            (λ a. let d = v.shown x y p q k a in (
              shown_wider (proper (row y)) (line_within w h (row y) r) d.0,
              shown_wider (proper (column x)) (line_within w h (column x) r)
                  d.1,
            ))
            (has_or (get_or s (y * w + x) 0) (get_or t (y * w + x) 0) (rw get_or-join at g));
      }

  pub picture_settled : {b : List ℕ} → Picture P w h b → Settled P w h b
  picture_settled {b} c =
      record {
        size = c.size;
        filled = λ x y p q. let d = c.single x y p q in has_nonzero {k = d.0} (rw d.1 (has_pow d.0));
        shown =
            λ x y p q k g.
            (whole (row y) q x k (rw (get_or_line w h b (row y) x p) g), whole (column x) p y k (rw (get_or_line w h b (column x) y q) g));
      }
    where
      whole : (l : LinePosition) → On w h l → (i k : ℕ) → Has (get_or (line_of w h b l) i 0) k → Shown (P l) (line_of w h b l) i k
      whole l o i k g =
          record {
            by = line_of w h b l;
            ok =
                record {
                  member = c.placed l o;
                  fits = within_agrees (line_of w h b l) (line_of w h b l) (proper l (line_of w h b l) (c.placed l o))
                      (within_refl (line_of w h b l));
                };
            gives = g;
          }

  pub kept_refl : (b : List ℕ) → Kept P w h b b
  kept_refl b = record { within = within_refl b; above = λ s z u. u }

  -- one board at most is the widest
  pub widest_one : {a b c : List ℕ} → Widest P w h a b → Widest P w h a c → b ≡ c
  widest_one {a} {b} {c} p q =
      within_antisym (q.kept.above b p.settled p.kept.within) (p.kept.above c q.settled q.kept.within)

  -- a second run changes nothing
  pub widest_again : {a b : List ℕ} → Widest P w h a b → Widest P w h b b
  widest_again {a} {b} p = record { settled = p.settled; kept = kept_refl b }

  -- a narrower start ends within the wider's end
  pub widest_mono : {a a' b b' : List ℕ} → Within a a' → Widest P w h a b → Widest P w h a' b' → Within b b'
  widest_mono {b = b} u p q = q.kept.above b p.settled (within_trans p.kept.within u)

  -- no finished picture is lost
  pub widest_picture : {a b c : List ℕ} → Widest P w h a b → Picture P w h c → Within c a → Within c b
  widest_picture {c = c} p q u = p.kept.above c (picture_settled q) u
