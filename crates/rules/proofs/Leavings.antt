-- What a run by the rules leaves: a board within its start, with no cell emptied; where it is refused, no placement of the refusing line agrees with
-- that board.
use mathlib.Core.Path.{◌≡◌, refl, ◌∙◌, subst}
use mathlib.Core.Logic.{◌⊎◌, inl, inr, ◌≢◌}
use mathlib.Core.Option.{Option, some}
use mathlib.Core.List.{List, Memᴰ}
use Prim.Native.Nat.{ℕ, ◌*◌, ◌<◌}
use native.Mathlib.Omega.{arith}
use lib.ListN.{length, get_or}
use Rattle.rules.specs.Answer.{Exact, Answers, Proper, Within}
use Rattle.rules.specs.declared.LinePosition.{LinePosition}
use Rattle.rules.specs.Board.{len, On, place, line_of, store, NoneEmpty}
use Rattle.rules.specs.Run.{Outcome, Runs, stops, refuses, steps, board_of, Halts}
use Rattle.rules.proofs.Colours.{has_nonzero}
use Rattle.rules.proofs.Answers.{full, within_refl, within_trans}
use Rattle.rules.proofs.Boards.{find, length_line, length_store, store_at, store_other}
use Rattle.rules.proofs.Settled.{step_size, step_narrows}
use Rattle.rules.proofs.Runs.{pushed_on}

module _ {P : LinePosition → List ℕ → Type 0} (w h : ℕ) (proper : (l : LinePosition) (p : List ℕ) → P l p → Proper p) (wide : 0 < w) (high : 0 < h)
    (solve : LinePosition → List ℕ → Option (List ℕ)) (right : (l : LinePosition) (c : List ℕ) → Answers (P l) c (solve l c)) where
  exact : (l : LinePosition) (b : List ℕ) {m : List ℕ} → solve l (line_of w h b l) ≡ some m → Exact (P l) (line_of w h b l) m
  exact l b q = subst (Answers (P l) (line_of w h b l)) q (right l (line_of w h b l))

  step_filled : (l : LinePosition) → On w h l → (b m : List ℕ) → Exact (P l) (line_of w h b l) m → length b ≡ h * w → NoneEmpty b → NoneEmpty (store w l m b)
  step_filled l o b m x size f i k = go (find (place w l) (len w h l) i)
    where
      long : length m ≡ len w h l
      long = x.long ∙ length_line w h b l

      go : ((j : ℕ) × (j < len w h l) × (i ≡ place w l j)) ⊎ ((j : ℕ) → j < len w h l → i ≢ place w l j) → get_or (store w l m b) i 0 ≢ 0
      go (inl (j, p, e)) =
          rw (e, store_at w h l o m b long size j p) (has_nonzero (full (proper l) x j (omega (arith, length_line w h b l))).1)
      go (inr g) = rw (store_other w h l o m b long size i g) (f i (omega (arith, length_store w h l m b)))

  -- what an end says of the board b that the run began with
  abbrev Leaves : List ℕ → Outcome → Type 0
  Leaves b o = Within (board_of o) b × (NoneEmpty b → NoneEmpty (board_of o))

  runs_leave : {st : List LinePosition} {b r : List ℕ} {k : ℕ} {o : Outcome} → Runs w h solve st b r k o → length b ≡ h * w
      → ((l : LinePosition) → Memᴰ l st → On w h l) → Leaves b o
  runs_leave (stops {b = b}) size on = (within_refl b, λ f. f)
  runs_leave (refuses {b = b} q) size on = (within_refl b, λ f. f)
  runs_leave (steps {l = l} {st = st} {b = b} m q d) size on =
      let o = on l (Memᴰ.head refl) in
      let x = exact l b q in
      let u =
      runs_leave d (step_size w h proper l o b m x size)
      (pushed_on w h proper wide high solve right l st b m o x size (λ j n. on j (Memᴰ.tail n))) in
      (within_trans u.0 (step_narrows w h proper l o b m x size), λ f. u.1 (step_filled l o b m x size f))

  pub runs_halt : {st : List LinePosition} {b r : List ℕ} {k : ℕ} {o : Outcome} → Runs w h solve st b r k o → length b ≡ h * w
      → ((l : LinePosition) → Memᴰ l st → On w h l) → Halts P w h o
  runs_halt stops size on = tt
  runs_halt (refuses {l = l} {b = b} q) size on =
      (on l (Memᴰ.head refl), subst (Answers (P l) (line_of w h b l)) q (right l (line_of w h b l)))
  runs_halt (steps {l = l} {st = st} {b = b} m q d) size on =
      let o = on l (Memᴰ.head refl) in
      let x = exact l b q in
      runs_halt d (step_size w h proper l o b m x size)
      (pushed_on w h proper wide high solve right l st b m o x size (λ j n. on j (Memᴰ.tail n)))

  module _ {st : List LinePosition} {b r : List ℕ} {k : ℕ} {o : Outcome} (d : Runs w h solve st b r k o) (size : length b ≡ h * w)
      (on : (l : LinePosition) → Memᴰ l st → On w h l) where
    pub runs_within : Within (board_of o) b
    runs_within = (runs_leave d size on).0

    pub runs_filled : NoneEmpty b → NoneEmpty (board_of o)
    runs_filled = (runs_leave d size on).1
