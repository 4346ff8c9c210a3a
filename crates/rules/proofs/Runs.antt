-- Demand 3 for any set of placements of each line: a run keeps all settled boards, and ends with the widest one or proves that there is none.
use mathlib.Core.Path.{◌≡◌, refl, sym, ap, ◌∙◌, subst}
use mathlib.Core.Bool.{true, false}
use mathlib.Core.Logic.{◌⊎◌, inl, inr, ⊎_elim, ◌≢◌}
use mathlib.Core.Option.{Option, none, some}
use mathlib.Core.List.Memᴰ
use mathlib.Core.List.{List, [], ◌∷◌, ◌++◌, map, Memᴰ}
use Prim.Native.Nat.{ℕ, zero, suc, ◌+◌, ◌*◌, ◌≤◌, ◌<◌}
use native.Mathlib.Nat.{zero-add}
use native.Mathlib.Omega.{arith}
use lib.ListN.{length, get_or, length-append, length-map}
use lib.Seq.{ext_get_or}
use Rattle.rules.specs.Answer.{Exact, Answers, Proper}
use Rattle.rules.specs.declared.LinePosition.{LinePosition}
use Rattle.rules.specs.Board.{row, column, len, On, place, cross, line_of, store, Stable, Kept, Widest}
use Rattle.rules.specs.Run.{same_line_of, changed, push_all, room, Outcome, done, refused, on_some, run, Runs, stops, refuses, steps, full_stack, point_stack, full_run, point_run, Ends, Alike, board_of, report_of}
use Rattle.rules.proofs.Colours.{ones_pos}
use Rattle.rules.proofs.Answers.{narrows, full}
use Rattle.rules.proofs.Boards.{find, at_one, place_lt, place_inj, length_line, get_or_line, store_at, store_other}
use Rattle.rules.proofs.Settled.{step_size, step_kept, step_stable, refusal_unsettled, stable_settled, kept_refl, widest_one}
use Rattle.rules.specs.declared.LinePosition.TheVariants.{Row, Column}
use Rattle.rules.proofs.Stacks.{line_cases, mem-push_all, cross_push_all, push_all-mem, length-push_all, on_stack, changed_in, changed_not, length-full_stack, full_stack_on, on_full_stack}
use Rattle.rules.proofs.Rooms.{room_put}
use Rattle.rules.proofs.RunSteps.{runs_one}

-- ---- which lines meet

module _ (w h : ℕ) where
  pub meet : (k l : LinePosition) (i j : ℕ) → On w h k → On w h l → i < len w h k → j < len w h l → place w k i ≡ place w l j
      → (k ≡ l) ⊎ (k ≡ cross l j)
  meet (Row y) (Row z) i j o q p r e = inl (ap row (at_one w h i y.0 j z.0 p r e).1)
  meet (Row y) (Column x) i j o q p r e = inr (ap row (at_one w h i y.0 x.0 j p q e).1)
  meet (Column x) (Row z) i j o q p r e = inr (ap column (at_one w h x.0 i j z.0 o r e).0)
  meet (Column x) (Column z) i j o q p r e = inl (ap column (at_one w h x.0 i z.0 j o q e).0)

  pub cross_on : (l : LinePosition) (j : ℕ) → j < len w h l → On w h (cross l j)
  cross_on (Row y) j p = p
  cross_on (Column x) j p = p

-- ---- the run

module _ {P : LinePosition → List ℕ → Type 0} (w h : ℕ) (proper : (l : LinePosition) (p : List ℕ) → P l p → Proper p) (wide : 0 < w) (high : 0 < h)
    (solve : LinePosition → List ℕ → Option (List ℕ)) (right : (l : LinePosition) (c : List ℕ) → Answers (P l) c (solve l c)) where
  -- before each step: every line that is not on the stack is stable
  pub record Inv (b₀ : List ℕ) (st : List LinePosition) (b : List ℕ) : Type 0 where
    pub size : length b ≡ h * w
    pub kept : Kept P w h b₀ b
    pub lines : (l : LinePosition) → Memᴰ l st → On w h l
    pub rest : (l : LinePosition) → On w h l → Memᴰ l st ⊎ Stable P w h b l

  module _ (l : LinePosition) (st : List LinePosition) (b m : List ℕ) (o : On w h l) (x : Exact (P l) (line_of w h b l) m) (size : length b ≡ h * w) where
    abbrev js : List ℕ
    js = changed 0 (line_of w h b l) m

    long : length m ≡ len w h l
    long = x.long ∙ length_line w h b l

    pub js_lt : {j : ℕ} → Memᴰ j js → j < len w h l
    js_lt {j} n = let r = changed_in 0 j (line_of w h b l) m n in omega (arith, length_line w h b l)

    -- the lines on the stack after the step are on the board
    pub pushed_on : ((k : LinePosition) → Memᴰ k st → On w h k) → (k : LinePosition) → Memᴰ k (push_all l js st) → On w h k
    pushed_on on k n = go (push_all-mem l js st n)
      where
        go : ((j : ℕ) × Memᴰ j js × (k ≡ cross l j)) ⊎ Memᴰ k st → On w h k
        go (inl (j, m, e)) = subst (On w h) (sym e) (cross_on w h l j (js_lt m))
        go (inr m) = on k m

    -- a line that is neither this one nor pushed is as it was
    same_line : (k : LinePosition) → On w h k → k ≢ l → (Memᴰ k (push_all l js st) → ⊥) → line_of w h (store w l m b) k ≡ line_of w h b k
    same_line k q d f =
        ext_get_or 0 (line_of w h (store w l m b) k) (line_of w h b k) (length_line w h (store w l m b) k ∙ sym (length_line w h b k))
        (λ i p.
        let r : i < len w h k = omega (arith, length_line w h (store w l m b) k) in
        get_or_line w h (store w l m b) k i r ∙ go i r (find (place w l) (len w h l) (place w k i)) ∙ sym (get_or_line w h b k i r))
      where
        go : (i : ℕ) → i < len w h k
            → ((j : ℕ) × (j < len w h l) × (place w k i ≡ place w l j)) ⊎ ((j : ℕ) → j < len w h l → place w k i ≢ place w l j)
            → get_or (store w l m b) (place w k i) 0 ≡ get_or b (place w k i) 0
        go i r (inr g) = store_other w h l o m b long size (place w k i) g
        go i r (inl (j, p, e)) =
            rw e
            (store_at w h l o m b long size j p
            ∙ changed_not 0 j (line_of w h b l) m x.long (omega (arith, length_line w h b l))
            (λ n. f
            (subst (λ (t : LinePosition). Memᴰ t (push_all l (changed 0 (line_of w h b l) m) st)) (sym (crosses i r j p e))
            (cross_push_all l (changed 0 (line_of w h b l) m) st (rw zero-add at n))))
            ∙ get_or_line w h b l j p)
          where
            crosses : (i : ℕ) → i < len w h k → (j : ℕ) → j < len w h l → place w k i ≡ place w l j → k ≡ cross l j
            crosses i r j p e = ⊎_elim (λ u. absurd (d u)) (λ u. u) (meet w h k l i j q o r p e)

    pub inv_next : {b₀ : List ℕ} → Inv b₀ (l ∷ st) b → Inv b₀ (push_all l js st) (store w l m b)
    inv_next {b₀} v =
        record {
          size = step_size w h proper l o b m x size;
          kept = step_kept w h proper l o b m x size v.kept;
          lines = pushed_on (λ k n. v.lines k (Memᴰ.tail n));
          rest = λ k q. go k q (on_stack k (push_all l js st));
        }
      where
        was : (k : LinePosition) → On w h k → k ≢ l → (Memᴰ k (push_all l js st) → ⊥) → Memᴰ k (l ∷ st) ⊎ Stable P w h b k
            → Stable P w h (store w l m b) k
        was k q d f (inl n) = ⊎_elim (λ u. absurd (d u)) (λ u. absurd (f (mem-push_all l js u))) (Memᴰ.cases_cons n)
        was k q d f (inr s) = rw (same_line k q d f) s

        here : (k : LinePosition) → On w h k → (Memᴰ k (push_all l js st) → ⊥)
            → ((k ≡ l) × (same_line_of k l ≡ true)) ⊎ ((k ≢ l) × (same_line_of k l ≡ false)) → Stable P w h (store w l m b) k
        here k q f (inl p) = subst (Stable P w h (store w l m b)) (sym p.0) (step_stable w h proper l o b m x size)
        here k q f (inr p) = was k q p.0 f (v.rest k q)

        go : (k : LinePosition) → On w h k → Memᴰ k (push_all l js st) ⊎ (Memᴰ k (push_all l js st) → ⊥)
            → Memᴰ k (push_all l js st) ⊎ Stable P w h (store w l m b) k
        go k q (inl n) = inl n
        go k q (inr f) = inr (here k q f (line_cases k l))

    -- the room falls by the number of changes
    pub room_step : room (store w l m b) + length js ≤ room b
    unfolding store
    room_step =
        room_put (place w l) 0 (line_of w h b l) m b x.long
        (λ i i' p q. place_inj w h l i i' o (omega (arith, length_line w h b l)) (omega (arith, length_line w h b l)))
        (λ i p. rw (zero-add, size) (place_lt w h l i o (omega (arith, length_line w h b l))))
        (λ i p. rw zero-add (sym (get_or_line w h b l i (omega (arith, length_line w h b l)))))
        (λ i p. (narrows (proper l) x).each i)
        (λ i p. ones_pos (full (proper l) x i p).1)

    pub measure_step : room (store w l m b) + length (push_all l js st) ≤ room b + length st
    measure_step = omega (arith, room_step, length-push_all l js st)

  settles : {b₀ b : List ℕ} → Inv b₀ [] b → Widest P w h b₀ b
  settles v =
      record {
        settled = stable_settled w h proper v.size (λ l o. ⊎_elim (λ n. absurd (Memᴰ.not-nil n)) (λ s. s) (v.rest l o));
        kept = v.kept;
      }

  pub run_right : {b₀ : List ℕ} (n : ℕ) (st : List LinePosition) (b r : List ℕ) (k : ℕ) → room b + length st ≤ n → Inv b₀ st b
      → Ends P w h b₀ (run w h solve n st b r k)
  unfolding run
  run_right zero [] b r k e v = settles v
  run_right zero (l ∷ st) b r k e v = absurd (omega arith)
  run_right (suc n) [] b r k e v = settles v
  run_right {b₀} (suc n) (l ∷ st) b r k e v = go (solve l (line_of w h b l)) (right l (line_of w h b l)) (λ st' b' r' k'. run_right n st' b' r' k')
    where
      go : (a : Option (List ℕ)) → Answers (P l) (line_of w h b l) a
          →
          ((st' : List LinePosition) (b' r' : List ℕ) (k' : ℕ) → room b' + length st' ≤ n → Inv b₀ st' b' → Ends P w h b₀
          (run w h solve n st' b' r' k'))
          → Ends P w h b₀ (on_some a (refused l b r k)
          (λ m. run w h solve n (push_all l (changed 0 (line_of w h b l) m) st) (store w l m b)
          (r ++ map (place w l) (changed 0 (line_of w h b l) m)) (suc k)))
      go none a up = refusal_unsettled w h proper wide high v.kept l (v.lines l (Memᴰ.head refl)) a
      go (some m) a up =
          let o = v.lines l (Memᴰ.head refl) in
          up _ _ _ _ (omega (arith, measure_step l st b m o a v.size)) (inv_next l st b m o a v.size v)

  -- the bound on the steps cuts nothing off: from lines of the board, the run is what the rules say
  pub run_runs : (n : ℕ) (st : List LinePosition) (b r : List ℕ) (k : ℕ) → room b + length st ≤ n → length b ≡ h * w
      → ((l : LinePosition) → Memᴰ l st → On w h l) → Runs w h solve st b r k (run w h solve n st b r k)
  unfolding run
  run_runs zero [] b r k e size on = stops
  run_runs zero (l ∷ st) b r k e size on = absurd (omega arith)
  run_runs (suc n) [] b r k e size on = stops
  run_runs (suc n) (l ∷ st) b r k e size on =
      go (solve l (line_of w h b l)) refl (right l (line_of w h b l)) (λ st' b' r' k'. run_runs n st' b' r' k')
    where
      here : On w h l
      here = on l (Memᴰ.head refl)

      go : (a : Option (List ℕ)) → solve l (line_of w h b l) ≡ a → Answers (P l) (line_of w h b l) a
          → ((st' : List LinePosition) (b' r' : List ℕ) (k' : ℕ) → room b' + length st' ≤ n → length b' ≡ h * w
          → ((l : LinePosition) → Memᴰ l st' → On w h l) → Runs w h solve st' b' r' k' (run w h solve n st' b' r' k'))
          → Runs w h solve (l ∷ st) b r k (on_some a (refused l b r k)
          (λ m. run w h solve n (push_all l (changed 0 (line_of w h b l) m) st) (store w l m b)
          (r ++ map (place w l) (changed 0 (line_of w h b l) m)) (suc k)))
      go none q a up = refuses q
      go (some m) q a up =
          steps m q
          (up _ _ _ _ (omega (arith, measure_step l st b m here a size)) (step_size w h proper l here b m a size)
          (pushed_on l st b m here a size (λ k n. on k (Memᴰ.tail n))))

  -- every entry costs a colour: what is told and the room that is left are at most what was told before and the room at the start
  spent_le : (n : ℕ) (st : List LinePosition) (b r : List ℕ) (k : ℕ) → length b ≡ h * w → ((l : LinePosition) → Memᴰ l st → On w h l)
      → length (report_of (run w h solve n st b r k)) + room (board_of (run w h solve n st b r k)) ≤ length r + room b
  unfolding run
  spent_le zero st b r k size on = omega arith
  spent_le (suc n) [] b r k size on = omega arith
  spent_le (suc n) (l ∷ st) b r k size on =
      go (solve l (line_of w h b l)) (right l (line_of w h b l)) (λ st' b' r' k'. spent_le n st' b' r' k')
    where
      here : On w h l
      here = on l (Memᴰ.head refl)

      go : (a : Option (List ℕ)) → Answers (P l) (line_of w h b l) a
          → ((st' : List LinePosition) (b' r' : List ℕ) (k' : ℕ) → length b' ≡ h * w → ((l : LinePosition) → Memᴰ l st' → On w h l)
          → length (report_of (run w h solve n st' b' r' k')) + room (board_of (run w h solve n st' b' r' k')) ≤ length r' + room b')
          → (let o = on_some a (refused l b r k)
          (λ m. run w h solve n (push_all l (changed 0 (line_of w h b l) m) st) (store w l m b)
          (r ++ map (place w l) (changed 0 (line_of w h b l) m)) (suc k)) in
          length (report_of o) + room (board_of o) ≤ length r + room b)
      go none a up = omega arith
      go (some m) a up =
          let js = changed 0 (line_of w h b l) m in
          omega (
            arith,
            up (push_all l js st) (store w l m b) (r ++ map (place w l) js) (suc k) (step_size w h proper l here b m a size)
                (pushed_on l st b m here a size (λ k n. on k (Memᴰ.tail n))),
            room_step l st b m here a size,
            length-append r (map (place w l) js),
            length-map js (place w l),
          )

  pub full_spent : (b : List ℕ) → length b ≡ h * w
      → length (report_of (full_run w h solve b)) + room (board_of (full_run w h solve b)) ≤ room b
  unfolding full_run
  full_spent b size = omega (arith, spent_le (room b + (w + h)) (full_stack w h) b [] 0 size (full_stack_on w h))

  point_on : (x y : ℕ) → x < w → y < h → (l : LinePosition) → Memᴰ l (point_stack x y) → On w h l
  point_on x y p q l n = ⊎_elim (λ e. subst (On w h) (sym e) q) (λ u. subst (On w h) (sym (Memᴰ.eq_of_singleton u)) p) (Memᴰ.cases_cons n)

  pub point_spent : (x y : ℕ) (b : List ℕ) → x < w → y < h → length b ≡ h * w
      → length (report_of (point_run w h solve x y b)) + room (board_of (point_run w h solve x y b)) ≤ room b
  unfolding point_run
  point_spent x y b p q size = omega (arith, spent_le (room b + 2) (point_stack x y) b [] 0 size (point_on x y p q))

  pub full_runs : (b : List ℕ) → length b ≡ h * w → Runs w h solve (full_stack w h) b [] 0 (full_run w h solve b)
  unfolding full_run
  full_runs b size = run_runs (room b + (w + h)) (full_stack w h) b [] 0 (omega (arith, length-full_stack w h)) size (full_stack_on w h)

  pub point_runs : (x y : ℕ) (b : List ℕ) → x < w → y < h → length b ≡ h * w → Runs w h solve (point_stack x y) b [] 0 (point_run w h solve x y b)
  unfolding point_run
  point_runs x y b p q size = run_runs (room b + 2) (point_stack x y) b [] 0 (omega arith) size (point_on x y p q)

  -- a run from any stack beside which every line is stable
  pub inv_starts : (st : List LinePosition) (b : List ℕ) → length b ≡ h * w → ((l : LinePosition) → Memᴰ l st → On w h l)
      → ((l : LinePosition) → On w h l → Memᴰ l st ⊎ Stable P w h b l) → Inv b st b
  inv_starts st b size lines rest = record { size = size; kept = kept_refl w h proper b; lines = lines; rest = rest }

  pub point_right : (x y : ℕ) (b : List ℕ) → x < w → y < h → length b ≡ h * w
      → ((l : LinePosition) → On w h l → (l ≢ row y) → (l ≢ column x) → Stable P w h b l) → Ends P w h b (point_run w h solve x y b)
  unfolding point_run
  point_right x y b p q size st = run_right (room b + 2) (point_stack x y) b [] 0 (omega arith) (inv_starts (point_stack x y) b size (point_on x y p q) rest)
    where
      rest : (l : LinePosition) → On w h l → Memᴰ l (point_stack x y) ⊎ Stable P w h b l
      rest l o =
          ⊎_elim (λ n. inl n) (λ f. inr (st l o (λ e. f (Memᴰ.head e)) (λ e. f (Memᴰ.tail (Memᴰ.head e)))))
          (on_stack l (point_stack x y))

  pub full_right : (b : List ℕ) → length b ≡ h * w → Ends P w h b (full_run w h solve b)
  unfolding full_run
  full_right b size =
      run_right (room b + (w + h)) (full_stack w h) b [] 0 (omega (arith, length-full_stack w h))
      (inv_starts (full_stack w h) b size (full_stack_on w h) (λ l o. inl (on_full_stack w h l o)))

  -- the order of lines does not matter: a run of the rules from any stack that has all lines of the board ends as demand 3 says
  pub any_order : (st : List LinePosition) (b : List ℕ) → length b ≡ h * w → ((l : LinePosition) → Memᴰ l st → On w h l)
      → ((l : LinePosition) → On w h l → Memᴰ l st) → {o : Outcome} → Runs w h solve st b [] 0 o → Ends P w h b o
  any_order st b size on all {o} d =
      let v = inv_starts st b size on (λ l q. inl (all l q)) in
      let n = room b + length st in
      subst (Ends P w h b) (runs_one w h solve (run_runs n st b [] 0 (omega arith) size on) d) (run_right n st b [] 0 (omega arith) v)

-- two runs from one start, each of which ends as demand 3 says, end alike
pub ends_alike : {P : LinePosition → List ℕ → Type 0} (w h : ℕ) (proper : (l : LinePosition) (p : List ℕ) → P l p → Proper p)
    (b₀ : List ℕ) (o u : Outcome)
    → Ends P w h b₀ o → Ends P w h b₀ u → Alike o u
ends_alike w h proper b₀ (done b r k) (done c s n) p q = widest_one w h proper p q
ends_alike w h proper b₀ (done b r k) (refused l c s n) p q = q.none b p.settled p.kept.within
ends_alike w h proper b₀ (refused l b r k) (done c s n) p q = p.none c q.settled q.kept.within
ends_alike w h proper b₀ (refused l b r k) (refused m c s n) p q = tt
