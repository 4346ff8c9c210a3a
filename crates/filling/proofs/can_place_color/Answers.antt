-- `can_place_color` meets its contract: what each cell has to take is its part of the block's shade.
use borrow.Author.Tests.{lt-ltb, le-ltb}
use mathlib.Core.Path.{◌≡◌}
use mathlib.Core.Bool.{Bool, true, false}
use native.Mathlib.Omega.{arith}
use Prim.Native.Nat.{ℕ, ◌+◌, ◌≤◌}
use lib.Dec.{T}
use Rattle.rules.specs.Colour.{can_take}
use Rattle.rules.proofs.Tests.{below?}
use Rattle.filling.specs.Filling.{Line}
use Rattle.filling.specs.Steps.{Decides, CanShow, shade, stop_of}
use Rattle.filling.proofs.Fillings.{told}
use Rattle.filling.proofs.can_place_color.Goals as goal

module _ (L : Line) (s position colour : ℕ) where
  -- with its blank
  trailing_shows : {r : Bool} → T (can_take (L.cell position) 1) → Decides (CanShow L s position (λ i. colour)) r
      → Decides (CanShow L s (position + 1) (shade (stop_of position true) colour)) r
  unfolding CanShow
  trailing_shows b D = record {
    yes = λ e i u v. below? i position
        (λ l. rw (lt-ltb i position l) (D.yes e i u l))
        (λ l. let q : i ≡ position = omega arith in rw (le-ltb i position l) (rw q b));
    no = λ e y. D.no e (λ i u v. rw (lt-ltb i position v) at (y i u (omega arith)));
  }

  no_blank : {r : Bool} → s ≤ position → r ≡ false → (T (can_take (L.cell position) 1) → ⊥)
      → Decides (CanShow L s (position + 1) (shade (stop_of position true) colour)) r
  unfolding CanShow
  no_blank l e n = record {
    yes = λ q. cc;
    no = λ q y. n (rw (le-ltb position position (omega arith)) at (y position l (omega arith)));
  }

  -- with none
  plain_shows : {r : Bool} → Decides (CanShow L s (position + 1) (λ i. colour)) r
      → Decides (CanShow L s (position + 1) (shade (stop_of position false) colour)) r
  unfolding CanShow
  plain_shows D = record {
    yes = λ e i u v. rw (lt-ltb i (position + 1) v) (D.yes e i u v);
    no = λ e y. D.no e (λ i u v. rw (lt-ltb i (position + 1) v) at (y i u v));
  }

pub returns-then-can_be : goal.returns-then-can_be
returns-then-can_be c =
    rw c.if-trailing.true (trailing_shows _ _ _ _ ((told c.can_be.ensures).yes c.if-can_be.true) c.all_can_be.ensures)

pub returns-else-can_be : goal.returns-else-can_be
returns-else-can_be c =
    rw c.if-trailing.true (no_blank _ _ _ _ c.requires.0 c.if-can_be.false ((told c.can_be.ensures).no c.if-can_be.false))

pub returns-else-trailing : goal.returns-else-trailing
returns-else-trailing c = rw c.if-trailing.false (plain_shows _ _ _ _ c.all_can_be-else-trailing.ensures)
