-- The order rules and demand 3 of the calls' own answers, what follows, and the bounds of the counts: for both kinds of cell, whose boards are read
-- as sets.
use Rattle.std.specs.Prelude.{Err, Ok}
use Rattle.rules.specs.Refusal.{Rule, verdict, written, Verdict}
use mathlib.Core.Path.{◌≡◌, refl, sym, ap, ◌∙◌, subst}
use mathlib.Core.Logic.{◌⊎◌, inl, inr, ⊎_elim, ◌↔◌}
use mathlib.Core.List.{List, [], map, Memᴰ}
use Prim.Native.Nat.{ℕ, ◌+◌, ◌≤◌}
use native.Mathlib.Omega.{arith}
use lib.ListN.{length, get_or, take, drop}
use lib.Seq.{take_at}
use Rattle.rules.specs.Answer.{Proper, Within}
use Rattle.rules.specs.Binary.{set_by, cell_of}
use Rattle.rules.specs.Board.{On, Picture, Widest, Unsettled}
use Rattle.rules.specs.Card.{Card, clue_of, solve_straight}
use Rattle.rules.specs.Run.{room, Outcome, done, refused, Runs, board_of, report_of, solved_of, Ends, Halts, Alike}
use Rattle.rules.specs.declared.LinePosition.{LinePosition}
use Rattle.rules.specs.declared.ColumnIndex.{ColumnIndex}
use Rattle.rules.specs.declared.RowIndex.{RowIndex}
use Rattle.rules.proofs.Answers.{within_trans}
use Rattle.rules.proofs.Binaries.{sets_back, sets_small, sets_some}
use Rattle.rules.proofs.Cards.{straight_right, straight_full, straight_point}
use Rattle.rules.proofs.Colours.{subset_num}
use Rattle.rules.proofs.Replies.{by_checking}
use Rattle.rules.proofs.RunSteps.{runs_one, full_solved, point_solved}
use Rattle.rules.proofs.Runs.{any_order, ends_alike}
use Rattle.rules.proofs.Settled.{picture_settled, widest_one, widest_again, widest_mono, widest_picture}
use Rattle.card.proofs.Clued.{clue_legal}
use Rattle.run.specs.declared.Start.{Start}
use Rattle.run.specs.declared.Start.TheVariants.{Full, Point}
use Rattle.propagation.specs.Answered.{Answered, coloured, binary, Passed, Placed, OthersStable, Fit, Halted}
use Rattle.propagation.specs.Calls.{run_rules, binary_run_rules, run_reply, Ran, set_cells, binary_cells}
use Rattle.run.specs.Ends.{Reply, reply_to, end_of, end_told, start_stack, start_count}
use Rattle.run.specs.Steps.{Judged}
use Rattle.grid.proofs.Rows.{sized}
use Rattle.rules.proofs.Verdicts.{cells_fine}
use Rattle.propagation.proofs.Told.{judged_in, cells_kept}
use Rattle.run.proofs.Started.{proper, spent, end_runs, left_within, left_filled, end_halts}

-- ---- what a call that passed the checks says of the run

record Ending (w h : ℕ) (s : Start) (c : Card) (b₀ : List ℕ) (t : Reply) (b report' : List ℕ) : Type 0 where
  report : List ℕ
  memo : List ℕ
  stack : List ℕ
  was : Judged w h s c b₀ report memo stack
  tells : t ≡ reply_to (end_of w h s c b₀)
  board : b ≡ board_of (end_of w h s c b₀)
  reports : report' ≡ written (report_of (end_of w h s c b₀)) report

passed_fine : (v : Verdict) (o : Outcome) (t : Reply) → Passed t → t ≡ run_reply v o → v ≡ Ok tt
passed_fine (Ok _) o t p e = refl
passed_fine (Err w) o t (inl p) e = absurd ((by_checking w).0 (sym (ap (λ r. r.number) e) ∙ p))
passed_fine (Err w) o t (inr p) e = absurd ((by_checking w).1 (sym (ap (λ r. r.number) e) ∙ p))

-- the board of sets that a judged run leaves on binary cells is read back from its cells
read_back : {w h : ℕ} {s : Start} {c : Card} {report memo stack : List ℕ} (grid : List ℕ) → Judged w h s c (map set_by grid) report memo stack
    → ((i : ℕ) → get_or grid i 0 ≤ 2)
    → map set_by (map cell_of (board_of (end_of w h s c (map set_by grid)))) ≡ board_of (end_of w h s c (map set_by grid))
read_back {w} {h} {s} {c} grid j small =
    let u = left_within j in
    let b = board_of (end_of w h s c (map set_by grid)) in
    sets_back b
    (λ i k. (
      let d = left_filled j (sets_some grid) i k in omega arith,
      omega (arith, subset_num (get_or b i 0) (get_or (map set_by grid) i 0) (u.each i), sets_small grid small i),
    ))

ending : {w h : ℕ} {s : Start} {c : Card} {b₀ r₀ : List ℕ} {t : Reply} {b r : List ℕ} → Answered w h s c b₀ r₀ t b r → Passed t
    → Ending w h s c b₀ t b r
ending {w} {h} {s} {c} {t = t} (coloured {grid = grid} {report = report} {memo = memo} {stack = stack} a) p =
    let e = passed_fine (verdict (run_rules w h s c grid (length report) (length memo) (length stack))) (end_of w h s c grid) t p a.tells in
    record {
      report = report;
      memo = memo;
      stack = stack;
      was = judged_in w h s c grid report memo stack set_cells e;
      tells = rw e at a.tells;
      board = rw e at a.leaves;
      reports = rw e at a.reports;
    }
ending {w} {h} {s} {c} {t = t} (binary {grid = grid} {report = report} {memo = memo} {stack = stack} a) p =
    let e =
    passed_fine (verdict (binary_run_rules w h s c grid (length report) (length memo) (length stack))) (end_of w h s c (map set_by grid)) t p
    a.tells in
    let j = judged_in w h s c grid report memo stack binary_cells e in
    record {
      report = report;
      memo = memo;
      stack = stack;
      was = j;
      tells = rw e at a.tells;
      board = ap (map set_by) (rw e at a.leaves) ∙ read_back grid j (cells_fine grid (cells_kept w h s c grid report memo stack binary_cells e));
      reports = rw e at a.reports;
    }

-- a call that breaks no rule passes the checks
replied : (o : Outcome) → Passed (reply_to o)
replied (done b r k) = inl refl
replied (refused l b r k) = inr refl

module _ {rules : List Rule} {o : Outcome} {board grid report memo stack : List ℕ} {t : Reply} {grid' report' memo' stack' : List ℕ}
    (a : Ran rules o board grid report memo stack t grid' report' memo' stack') where
  pub fine_passed : verdict rules ≡ Ok tt → Passed t
  fine_passed e = subst Passed (sym (rw e at a.tells)) (replied o)

  -- one that did not pass them left the board as it was
  ran_passed : Passed t ⊎ (grid' ≡ grid)
  ran_passed = go (verdict rules) refl
    where
      go : (v : Verdict) → verdict rules ≡ v → Passed t ⊎ (grid' ≡ grid)
      go (Ok _) e = inl (fine_passed e)
      go (Err w) e = inr (rw e at a.leaves)

passed_or_kept : {w h : ℕ} {s : Start} {c : Card} {b₀ r₀ : List ℕ} {t : Reply} {b r : List ℕ} → Answered w h s c b₀ r₀ t b r → Passed t ⊎ (b ≡ b₀)
passed_or_kept (coloured a) = ran_passed a
passed_or_kept (binary a) = ⊎_elim (λ p. inl p) (λ e. inr (ap (map set_by) e)) (ran_passed a)

-- what the numbers 0 and 8 say of a run's end
module _ {P : LinePosition → List ℕ → Type 0} (w h : ℕ) (b₀ : List ℕ) where
  zero_widest : (o : Outcome) (t : Reply) → t ≡ reply_to o → t.number ≡ 0 → Ends P w h b₀ o → Widest P w h b₀ (board_of o)
  zero_widest (done b r k) t e n z = z
  zero_widest (refused l b r k) t e n z = absurd (let q : ◌≡◌ {A = ℕ} 0 8 = sym n ∙ ap (λ x. x.number) e in omega arith)

  eight_unsettled : (o : Outcome) (t : Reply) → t ≡ reply_to o → t.number ≡ 8 → Ends P w h b₀ o → Unsettled P w h b₀
  eight_unsettled (done b r k) t e n z = absurd (let q : ◌≡◌ {A = ℕ} 8 0 = sym n ∙ ap (λ x. x.number) e in omega arith)
  eight_unsettled (refused l b r k) t e n z = z

ends : {w h : ℕ} (s : Start) {c : Card} {b report memo stack : List ℕ} → Judged w h s c b report memo stack → Fit w h s c b
    → Ends (Placed w h c) w h b (end_of w h s c b)
ends {w} {h} Full {c} {b} j f = straight_full w h (clue_of c) (clue_legal j.right) j.grid.wide j.grid.high b (sized j.grid)
ends {w} {h} (Point x y) {c} {b} j f =
    straight_point w h (clue_of c) (clue_legal j.right) j.grid.wide j.grid.high x.0 y.0 b j.inside.0 j.inside.1
    (sized j.grid) f

-- ---- the order rules

module _ {w h : ℕ} {s : Start} {c : Card} {b₀ r₀ : List ℕ} {t : Reply} {b r : List ℕ} (a : Answered w h s c b₀ r₀ t b r) (p : Passed t) where
  -- the end that the call tells, with the board and the first entries of the report that it left
  abbrev end : Outcome
  end = end_told t b (take t.entries r)

  end_is : end_of w h s c b₀ ≡ end
  end_is = let v = ending a p in go (end_of w h s c b₀) v.tells v.board v.reports
    where
      go : (o : Outcome) → t ≡ reply_to o → b ≡ board_of o → r ≡ written (report_of o) (ending a p).report → o ≡ end
      go (done x y k) e f g = rw (e, f, g) (ap (λ z. done x z k) (sym (take_at y (drop (length y) (ending a p).report) (length y) refl)))
      go (refused l x y k) e f g =
          rw (e, f, g) (ap (λ z. refused l x z k) (sym (take_at y (drop (length y) (ending a p).report) (length y) refl)))

  -- has the reply's number, line and counts
  pub reply_is : t ≡ reply_to end
  reply_is = (ending a p).tells ∙ ap reply_to end_is

  -- and is the one that the order rules give, from the stack that its run begins with
  pub by_the_rules : Runs w h (solve_straight w h (clue_of c)) (start_stack w h s) b₀ [] 0 end
  by_the_rules = subst (Runs w h (solve_straight w h (clue_of c)) (start_stack w h s) b₀ [] 0) end_is (end_runs (ending a p).was)

  -- they give no other
  pub by_no_other : {o : Outcome} → Runs w h (solve_straight w h (clue_of c)) (start_stack w h s) b₀ [] 0 o → o ≡ end
  by_no_other d = runs_one w h (solve_straight w h (clue_of c)) d by_the_rules

-- with 8 the line that is named has no agreeing placement on the board that the call left; that board and the report's first entries are
-- those of the lines solved before
pub halted : {w h : ℕ} {s : Start} {c : Card} {b₀ r₀ : List ℕ} {t : Reply} {b r : List ℕ} → Answered w h s c b₀ r₀ t b r → t.number ≡ 8
    → Halted w h s c b₀ t b r
halted {w} {h} {s} {c} {b₀} {t = t} {b = b} {r = r} a n =
    let v = ending a (inr n) in
    go (end_of w h s c b₀) v.tells v.board (end_halts v.was)
  where
    go : (o : Outcome) → t ≡ reply_to o → b ≡ board_of o → Halts (Placed w h c) w h o → Halted w h s c b₀ t b r
    go (done x y k) e f z = absurd (let q : ◌≡◌ {A = ℕ} 8 0 = sym n ∙ ap (λ u. u.number) e in omega arith)
    go (refused l x y k) e f z = record {
      line = l;
      names = ap (λ u. u.line) e;
      on = z.0;
      never = rw f z.1;
      before = rw (ap (λ u. u.line) e) at (by_the_rules a (inr n));
    }

-- ---- demand 3

module _ {w h : ℕ} {s : Start} {c : Card} {b₀ r₀ : List ℕ} {t : Reply} {b r : List ℕ} (a : Answered w h s c b₀ r₀ t b r) (f : Fit w h s c b₀) where
  -- with 0 a run ends with the widest settled board within its start
  pub ends_widest : t.number ≡ 0 → Widest (Placed w h c) w h b₀ b
  ends_widest n =
      let v = ending a (inl n) in
      let z = zero_widest w h b₀ (end_of w h s c b₀) t v.tells n (ends s v.was f) in
      rw v.board z

  -- with 8 no settled board lies within its start
  pub ends_unsettled : t.number ≡ 8 → Unsettled (Placed w h c) w h b₀
  ends_unsettled n = let v = ending a (inr n) in eight_unsettled w h b₀ (end_of w h s c b₀) t v.tells n (ends s v.was f)

  -- and so 8 exactly if there is none
  pub refused_exactly : Passed t → (t.number ≡ 8) ↔ Unsettled (Placed w h c) w h b₀
  refused_exactly p = (ends_unsettled, λ u. ⊎_elim (λ n. let z = ends_widest n in absurd (u.none b z.settled z.kept.within)) (λ n. n) p)

-- a full run asks nothing of its start
module _ {w h : ℕ} {c : Card} {b₀ r₀ : List ℕ} {t : Reply} {b r : List ℕ} (a : Answered w h Full c b₀ r₀ t b r) where
  pub full_widest : t.number ≡ 0 → Widest (Placed w h c) w h b₀ b
  full_widest n = ends_widest a tt n

  pub full_refused : Passed t → (t.number ≡ 8) ↔ Unsettled (Placed w h c) w h b₀
  full_refused p = refused_exactly a tt p

-- ---- what follows

-- the order of lines cannot matter: a run by the rules, from all lines in any order, is done on the same board, or refused if the call was
module _ {w h : ℕ} {c : Card} {b₀ r₀ : List ℕ} {t : Reply} {b r : List ℕ} (a : Answered w h Full c b₀ r₀ t b r) (st : List LinePosition)
    (on : (l : LinePosition) → Memᴰ l st → On w h l) (all : (l : LinePosition) → On w h l → Memᴰ l st) (o : Outcome)
    (d : Runs w h (solve_straight w h (clue_of c)) st b₀ [] 0 o) where
  other_end : Passed t → Ends (Placed w h c) w h b₀ o
  other_end p =
      let j = (ending a p).was in
      any_order w h (proper j) j.grid.wide j.grid.high (solve_straight w h (clue_of c)) (straight_right w h (clue_of c) (clue_legal j.right))
      st b₀ (sized j.grid) on all d

  pub same_board : t.number ≡ 0 → Alike (done b [] 0) o
  same_board n =
      ends_alike w h (proper (ending a (inl n)).was) b₀ (done b [] 0) o (full_widest a n) (other_end (inl n))

  pub same_refusal : t.number ≡ 8 → (l : LinePosition) → Alike (refused l b [] 0) o
  same_refusal n l =
      ends_alike w h (proper (ending a (inr n)).was) b₀ (refused l b [] 0) o ((full_refused a (inr n)).0 n) (other_end (inr n))

module _ {w h : ℕ} {c : Card} {b₀ r₀ : List ℕ} {t : Reply} {b r : List ℕ} (a : Answered w h Full c b₀ r₀ t b r) (n : t.number ≡ 0) where
  kind : (l : LinePosition) (p : List ℕ) → Placed w h c l p → Proper p
  kind = proper (ending a (inl n)).was

  -- a second run changes nothing and reports nothing
  module _ {r₁ : List ℕ} {t' : Reply} {b' r' : List ℕ} (a' : Answered w h Full c b r₁ t' b' r') (p : Passed t') where
    pub again_done : t'.number ≡ 0
    again_done =
        ⊎_elim (λ m. m) (λ m. let z = full_widest a n in absurd
        (((full_refused a' p).0 m).none b z.settled (widest_again w h kind z).kept.within)) p

    pub again_same : b' ≡ b
    again_same = widest_one w h kind (full_widest a' again_done) (widest_again w h kind (full_widest a n))

    pub again_silent : t'.entries ≡ 0
    again_silent = silent (end_of w h Full c b) v.tells (spent v.was) (sym v.board ∙ again_same)
      where
        v : Ending w h Full c b t' b' r'
        v = ending a' p

        silent : (o : Outcome) → t' ≡ reply_to o → length (report_of o) + room (board_of o) ≤ room b → board_of o ≡ b → t'.entries ≡ 0
        silent (done b'' r k) e l q = omega (arith, ap (λ x. x.entries) e, ap room q)
        silent (refused l' b'' r k) e l q = omega (arith, ap (λ x. x.entries) e, ap room q)

-- a narrower start that settles ends within the wider's end, which is done too where it passes the checks
module _ {w h : ℕ} {c : Card} {a₀ b₀ r₀ r₁ : List ℕ} {t t' : Reply} {b b' r r' : List ℕ} (a : Answered w h Full c b₀ r₀ t b r)
    (a' : Answered w h Full c a₀ r₁ t' b' r') (m : t'.number ≡ 0) (u : Within a₀ b₀) where
  pub narrower_done : Passed t → t.number ≡ 0
  narrower_done p =
      let z = full_widest a' m in
      ⊎_elim (λ n. n) (λ n. absurd (((full_refused a p).0 n).none b' z.settled (within_trans z.kept.within u))) p

  pub narrower : Within b' b
  narrower = ⊎_elim widest kept (passed_or_kept a)
    where
      widest : Passed t → Within b' b
      widest p = widest_mono w h (proper (ending a p).was) u (full_widest a' m) (full_widest a (narrower_done p))

      kept : b ≡ b₀ → Within b' b
      kept e = rw e (within_trans (full_widest a' m).kept.within u)

-- no finished picture is lost: where one lies within the start, the run is done and the picture lies within its end
module _ {w h : ℕ} {c : Card} {b₀ r₀ : List ℕ} {t : Reply} {b r : List ℕ} (a : Answered w h Full c b₀ r₀ t b r) (p : Passed t) {m : List ℕ}
    (q : Picture (Placed w h c) w h m) (u : Within m b₀) where
  pub picture_done : t.number ≡ 0
  picture_done =
      ⊎_elim (λ n. n) (λ n. absurd (((full_refused a p).0 n).none m (picture_settled w h (proper (ending a p).was) q) u)) p

  pub picture_kept : Within m b
  picture_kept = widest_picture w h (proper (ending a p).was) (full_widest a picture_done) q u

-- a run from a point, where all other lines were stable, is refused alike and else ends on the same board
module _ {w h : ℕ} {c : Card} {b₀ r₀ r₁ : List ℕ} {t t' : Reply} {b b' r r' : List ℕ} {x : ColumnIndex} {y : RowIndex}
    (a : Answered w h Full c b₀ r₀ t b r) (p : Passed t)
    (a' : Answered w h (Point x y) c b₀ r₁ t' b' r') (p' : Passed t') (f : OthersStable w h c x y b₀) where
  pub point_alike : t.number ≡ t'.number
  point_alike =
      ⊎_elim
      (λ n. n ∙ sym (⊎_elim (λ m. m) (λ m. let z = full_widest a n in absurd ((ends_unsettled a' f m).none b z.settled z.kept.within)) p'))
      (λ n. n ∙ sym ((refused_exactly a' f p').1 ((full_refused a p).0 n)))
      p

  pub point_same : t.number ≡ 0 → b ≡ b'
  point_same n = widest_one w h (proper (ending a p).was) (full_widest a n) (ends_widest a' f (sym point_alike ∙ n))

-- ---- the bounds of the counts

module _ {w h : ℕ} {s : Start} {c : Card} {b₀ r₀ : List ℕ} {t : Reply} {b r : List ℕ} (a : Answered w h s c b₀ r₀ t b r) (p : Passed t) where
  -- at most as many entries as the room number
  pub entries_bound : t.entries ≤ room b₀
  entries_bound = go (end_of w h s c b₀) (ending a p).tells (spent (ending a p).was)
    where
      go : (o : Outcome) → t ≡ reply_to o → length (report_of o) + room (board_of o) ≤ room b₀ → t.entries ≤ room b₀
      go (done b r k) e l = omega (arith, ap (λ x. x.entries) e)
      go (refused q b r k) e l = omega (arith, ap (λ x. x.entries) e)

  -- at most as many lines as the stack had at the start and the room number: width + height, or 2, and the room
  pub lines_bound : t.lines ≤ start_count w h s + room b₀
  lines_bound = go (end_of w h s c b₀) (ending a p).tells (solved s)
    where
      solved : (s : Start) → solved_of (end_of w h s c b₀) ≤ start_count w h s + room b₀
      solved Full = full_solved w h (solve_straight w h (clue_of c)) b₀
      solved (Point x y) = point_solved w h (solve_straight w h (clue_of c)) x.0 y.0 b₀

      go : (o : Outcome) → t ≡ reply_to o → solved_of o ≤ start_count w h s + room b₀ → t.lines ≤ start_count w h s + room b₀
      go (done b r k) e l = omega (arith, ap (λ x. x.lines) e)
      go (refused q b r k) e l = omega (arith, ap (λ x. x.lines) e)
