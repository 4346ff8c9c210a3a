-- The two pieces that a filling can end in, as the code finds them: a blank, and a block with its gap.
use mathlib.Core.Path.{◌≡◌, ◌∙◌}
use mathlib.Core.Bool.{Bool, true, false, cond}
use Prim.Native.Nat.{ℕ, ◌+◌, ◌-◌, ◌≤◌, ◌<◌}
use native.Mathlib.Omega.{arith}
use borrow.Author.Tests.{lt-ltb, le-ltb}
use lib.Dec.{T}
use Rattle.rules.specs.Colour.{can_take}
use Rattle.rules.proofs.Tests.{below?}
use Rattle.filling.specs.Filling.{Line, trails, gap_after, AgreesTo}
use Rattle.filling.specs.Steps.{shade, stop_of, CanShow, LegalLine, EndsBlank, EndsBlock}
use Rattle.filling.proofs.Fillings.{Piece}

pub blank_piece : (L : Line) (at b : ℕ) → T (can_take (L.cell at) 1) → Piece L (EndsBlank L at b) at b (at + 1) (λ i. 1)
blank_piece L at b h = record {
  fits = λ f E. E.before;
  shows = λ f E i u v. let e : i ≡ at = omega arith in rw e E.is;
  made = λ f F s. record { before = F; takes = h; is = s at (omega arith) (omega arith) };
}

stop_is : (t : Bool) (at x : ℕ) → x + cond t 1 0 ≡ at + 1 → stop_of at t ≡ x
stop_is true at x e = omega arith
stop_is false at x e = omega arith

-- what the code knows of the last block
pub record Found (L : Line) (at b : ℕ) (t : Bool) (room : ℕ) : Type 0 where
  pub legal : LegalLine L
  pub some : 1 ≤ b
  pub within : b ≤ L.count
  pub trail : t ≡ trails L (b - 1)
  pub room_is : room ≡ L.size (b - 1) + cond t 1 0

module _ {L : Line} {at b : ℕ} {t : Bool} {room : ℕ} (F : Found L at b t room) where
  abbrev colour : ℕ
  colour = L.colour (b - 1)

  abbrev size : ℕ
  size = L.size (b - 1)

  -- the block's cells end where the code has it
  stop : (s : ℕ) → s + room ≡ at + 1 → stop_of at t ≡ s + size
  stop s e = stop_is t at (s + size) (omega arith)

  -- what a filling that ends in the block says
  where_is : {f : ℕ → ℕ} (E : EndsBlock L at b f) → E.start + room ≡ at + 1
  where_is E =
      let e : E.prior ≡ b - 1 = omega (arith, E.is) in
      let g : gap_after L E.prior ≡ cond t 1 0 = rw (F.trail, e) in
      let d : L.size E.prior ≡ size = rw e in
      omega (arith, E.block.ends)

  what_is : {f : ℕ → ℕ} (E : EndsBlock L at b f) → (i : ℕ) → E.start ≤ i → i < at + 1 → f i ≡ shade (stop_of at t) colour i
  what_is E i u v =
      let e : E.prior ≡ b - 1 = omega (arith, E.is) in
      let d : L.size E.prior ≡ size = rw e in
      rw (stop E.start (where_is E)) (below? i (E.start + size)
      (λ l. rw (lt-ltb i (E.start + size) l) (E.block.inside i u (omega arith) ∙ rw e))
      (λ l. rw (le-ltb i (E.start + size) l) (E.block.after i (omega arith) v)))

  -- where there are too few cells for the block no filling ends in it
  pub no_room : at + 1 < room → (f : ℕ → ℕ) → EndsBlock L at b f → ⊥
  no_room h f E = omega (arith, where_is E)

  module _ (s : ℕ) (fills : s + room ≡ at + 1) where
    pub starts : s ≤ at
    starts = omega (arith, F.legal.sized (b - 1) (omega arith))

    -- nor where the block cannot lie
    pub no_block : (CanShow L s (at + 1) (shade (stop_of at t) colour) → ⊥) → (f : ℕ → ℕ) → EndsBlock L at b f → ⊥
    unfolding CanShow AgreesTo
    no_block n f E = n (λ i u v. rw (what_is E i (omega (arith, where_is E)) v) at (E.agrees i v))

    pub block_piece : CanShow L s (at + 1) (shade (stop_of at t) colour) → Piece L (EndsBlock L at b) s (b - 1) (at + 1) (shade (stop_of at t) colour)
    unfolding CanShow AgreesTo
    block_piece h = record {
      fits = λ f E.
          let e : E.prior ≡ b - 1 = omega (arith, E.is) in
          let d : E.start ≡ s = omega (arith, where_is E) in
          record { shows = rw (d, e) at E.before; agrees = λ i l. E.agrees i (omega (arith, starts)) };
      shows = λ f E i u v. what_is E i (omega (arith, where_is E)) v;
      made = λ f W w. record {
        start = s;
        prior = b - 1;
        is = omega arith;
        before = W.shows;
        block = record {
          within = omega arith;
          ends = let g : gap_after L (b - 1) ≡ cond t 1 0 = rw F.trail in omega arith;
          inside = λ i u v. w i u (omega arith) ∙ rw (stop s fills, lt-ltb i (s + size) v);
          after = λ i u v. w i (omega arith) v ∙ rw (stop s fills, le-ltb i (s + size) u);
        };
        agrees = λ i v. below? i s (λ u. W.agrees i u) (λ u. rw (w i u v) (h i u v));
      };
    }
