-- A line's answer is what the rules say, and nothing else is; and the binary reading: a cell becomes 1 or 2 if all agreeing placements say so, else 0.
use mathlib.Core.Path.{◌≡◌, refl, sym, ap, ap₂, ◌∙◌, subst}
use mathlib.Core.Logic.{◌↔◌, ◌≢◌}
use mathlib.Core.List.{List, [], ◌∷◌, map}
use mathlib.Core.Option.{Option}
use Prim.Native.Nat.{ℕ, zero, suc, ◌^◌, ◌≤◌, ◌<◌}
use native.Mathlib.Omega.{arith}
use lib.ListN.{length, get_or, get_or-map}
use Rattle.rules.specs.Colour.{Has, Subset}
use Rattle.rules.specs.Answer.{Fitting, Differing, Exact, Answers, answer, Proper}
use Rattle.rules.specs.Block.{Block}
use Rattle.rules.specs.Placement.{Placement, placements}
use Rattle.rules.specs.Binary.{set_by, cell_of, line_answer}
use Rattle.rules.proofs.Colours.{has_nonzero, has_pow, has_pow_only, subset_antisym, pow_subset}
use Rattle.rules.proofs.Answers.{full, proper_at, agrees_long, answer_for, answer_only}
use Rattle.rules.proofs.Placements.{placements_exact}

pub line_right : (bs : List Block) (n : ℕ) (l : List ℕ) → Answers (Placement bs n) l (answer (placements bs n) l)
line_right bs n l = answer_for (placements bs n) (placements_exact bs n) l

pub line_only : (bs : List Block) (l : List ℕ) (o : Option (List ℕ)) → Answers (Placement bs (length l)) l o → line_answer bs l ≡ o
line_only bs l o a = answer_only (Placement bs (length l)) l (line_answer bs l) o (line_right bs (length l) l) a

pub set_cell : (s : ℕ) → 0 < s → s ≤ 3 → set_by (cell_of s) ≡ s
set_cell zero p h = omega arith
set_cell (suc zero) p h = refl
set_cell (suc (suc zero)) p h = refl
set_cell (suc (suc (suc n))) p h = omega arith

-- the same of lists
pub sets_back : (b : List ℕ) → ((i : ℕ) → i < length b → (0 < get_or b i 0) × (get_or b i 0 ≤ 3)) → map set_by (map cell_of b) ≡ b
sets_back [] f = refl
sets_back (a ∷ b) f =
    ap₂ (λ (x : ℕ) (l : List ℕ). x ∷ l) (let h = f 0 (omega arith) in set_cell a h.0 h.1) (sets_back b (λ i k. f (suc i) (omega arith)))

set_small : (c : ℕ) → c ≤ 2 → set_by c ≤ 3
set_small zero h = omega arith
set_small (suc n) h = omega arith

pub sets_small : (l : List ℕ) → ((i : ℕ) → get_or l i 0 ≤ 2) → (i : ℕ) → get_or (map set_by l) i 0 ≤ 3
sets_small [] f i = omega arith
sets_small (a ∷ l) f zero = set_small a (f 0)
sets_small (a ∷ l) f (suc i) = sets_small l (λ j. f (suc j)) i

set_some : (c : ℕ) → set_by c ≢ 0
set_some zero e = omega arith
set_some (suc n) e = omega arith

-- no cell is the empty set
pub sets_some : (l : List ℕ) (i : ℕ) → i < length (map set_by l) → get_or (map set_by l) i 0 ≢ 0
sets_some [] i h = absurd (omega arith)
sets_some (c ∷ l) zero h = set_some c
sets_some (c ∷ l) (suc i) h = sets_some l i (omega arith)

module _ {P : List ℕ → Type 0} (o : (p : List ℕ) → P p → Proper p) {l m : List ℕ} (x : Exact P l m) (i : ℕ) (r : i < length l) where
  -- the set of cell i is the one colour 2 ^ k exactly if all agreeing placements give that colour
  pub all_say : (k : ℕ) → (get_or m i 0 ≡ 2 ^ k) ↔ ((p : List ℕ) → Fitting P l p → get_or p i 0 ≡ 2 ^ k)
  all_say k = (
    λ e p f.
        let c = proper_at p i (o p f.member) (omega (arith, agrees_long l p f.fits)) in
        let g : Has (2 ^ k) c.0 = rw e at (x.whole i c.0 (record { by = p; ok = f; gives = rw c.1 (has_pow c.0) })) in
        c.1 ∙ ap (λ (n : ℕ). 2 ^ n) (has_pow_only k c.0 g),
    λ all.
        let to : Subset (get_or m i 0) (2 ^ k) = λ j g. let s = x.sound i j g in rw (all s.by s.ok) at s.gives in
        let f = full o x i r in
        subset_antisym to (pow_subset (subst (λ (n : ℕ). Has (get_or m i 0) n) (has_pow_only k f.0 (to f.0 f.1)) f.1)),
  )

-- the cell that a set is read as
cell_one : (s : ℕ) → (cell_of s ≡ 1) ↔ (s ≡ 1)
cell_one zero = (λ e. e, λ e. e)
cell_one (suc zero) = (λ e. e, λ e. e)
cell_one (suc (suc zero)) = (λ e. e, λ e. e)
cell_one (suc (suc (suc n))) = (λ e. omega arith, λ e. omega arith)

cell_two : (s : ℕ) → (cell_of s ≡ 2) ↔ (s ≡ 2)
cell_two zero = (λ e. e, λ e. e)
cell_two (suc zero) = (λ e. e, λ e. e)
cell_two (suc (suc zero)) = (λ e. e, λ e. e)
cell_two (suc (suc (suc n))) = (λ e. omega arith, λ e. omega arith)

-- a set of blank and black is undefined exactly if it is both
set_open : (s : ℕ) → s ≢ 0 → s ≤ 3 → cell_of s ≡ 0 → s ≡ 3
set_open zero p h e = absurd (p refl)
set_open (suc zero) p h e = absurd (omega arith)
set_open (suc (suc zero)) p h e = absurd (omega arith)
set_open (suc (suc (suc n))) p h e = omega arith

cell_open : (s : ℕ) → s ≢ 1 → s ≢ 2 → cell_of s ≡ 0
cell_open zero a b = refl
cell_open (suc zero) a b = absurd (a refl)
cell_open (suc (suc zero)) a b = absurd (b refl)
cell_open (suc (suc (suc n))) a b = refl

module _ {P : List ℕ → Type 0} (o : (p : List ℕ) → P p → Proper p) {l m : List ℕ} (x : Exact P l m) (i : ℕ) (r : i < length l) where
  -- white, black
  pub binary_white : (get_or (map cell_of m) i 0 ≡ 1) ↔ ((p : List ℕ) → Fitting P l p → get_or p i 0 ≡ 1)
  binary_white = (
    λ e. (all_say o x i r 0).0 ((cell_one (get_or m i 0)).0 (rw (get_or-map cell_of m i 0) at e)),
    λ f. rw (get_or-map cell_of m i 0) ((cell_one (get_or m i 0)).1 ((all_say o x i r 0).1 f)),
  )

  pub binary_black : (get_or (map cell_of m) i 0 ≡ 2) ↔ ((p : List ℕ) → Fitting P l p → get_or p i 0 ≡ 2)
  binary_black = (
    λ e. (all_say o x i r 1).0 ((cell_two (get_or m i 0)).0 (rw (get_or-map cell_of m i 0) at e)),
    λ f. rw (get_or-map cell_of m i 0) ((cell_two (get_or m i 0)).1 ((all_say o x i r 1).1 f)),
  )

  -- undefined exactly where two of them differ
  pub binary_open : get_or m i 0 ≤ 3 → (get_or (map cell_of m) i 0 ≡ 0) ↔ Differing P l i
  binary_open small = (
    λ e. both (set_open (get_or m i 0) (has_nonzero (full o x i r).1) small (rw (get_or-map cell_of m i 0) at e)),
    λ d. rw (get_or-map cell_of m i 0)
        (cell_open (get_or m i 0) (λ e. d.differ (say_same 0 d e)) (λ e. d.differ (say_same 1 d e))),
  )
    where
      -- if the set is one colour, both placements give it
      say_same : (k : ℕ) (d : Differing P l i) → get_or m i 0 ≡ 2 ^ k → get_or d.one i 0 ≡ get_or d.other i 0
      say_same k d e = (all_say o x i r k).0 e d.one d.one_ok ∙ sym ((all_say o x i r k).0 e d.other d.other_ok)

      both : get_or m i 0 ≡ 3 → Differing P l i
      both e =
          let s = x.sound i 0 (rw e (record { on = refl })) in
          let t = x.sound i 1 (rw e (record { on = refl })) in
          record { one = s.by; other = t.by; one_ok = s.ok; other_ok = t.ok; differ = λ q. apart s.by s.ok s.gives (rw q t.gives) }
        where
          apart : (p : List ℕ) → Fitting P l p → Has (get_or p i 0) 0 → Has (get_or p i 0) 1 → ⊥
          apart p f a b =
              let c = proper_at p i (o p f.member) (omega (arith, agrees_long l p f.fits)) in
              omega (arith, has_pow_only c.0 0 (rw c.1 at a), has_pow_only c.0 1 (rw c.1 at b))
