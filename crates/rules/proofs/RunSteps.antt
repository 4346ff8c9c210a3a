-- A run, step by step: for a loop that makes the steps, and for the bounds on them.
use mathlib.Core.Path.{◌≡◌, refl, sym, ◌∙◌, subst}
use mathlib.Core.Option.{Option, none, some}
use mathlib.Core.List.{List, [], ◌∷◌, ◌++◌, map}
use Prim.Native.Nat.{ℕ, zero, suc, ◌+◌, ◌≤◌}
use native.Mathlib.Omega.{arith}
use Rattle.rules.specs.declared.LinePosition.{LinePosition}
use Rattle.rules.specs.Board.{place, line_of, store}
use Rattle.rules.specs.Run.{changed, push_all, room, Outcome, done, refused, on_some, run, Runs, stops, refuses, steps, full_stack, point_stack, full_run, point_run, solved_of}

none≢some : {m : List ℕ} → ◌≡◌ {A = Option (List ℕ)} none (some m) → ⊥
none≢some e = let z : ◌≡◌ {A = ℕ} 0 1 = cc in omega arith

pub some_one : {A : Type 0} {a b : A} → ◌≡◌ {A = Option A} (some a) (some b) → a ≡ b
some_one e = cc

module _ (w h : ℕ) (solve : LinePosition → List ℕ → Option (List ℕ)) where
  -- the steps of a run, for a loop that makes them: what is left to run gives the whole
  pub run_stop : (n : ℕ) (b r : List ℕ) (k : ℕ) → run w h solve n [] b r k ≡ done b r k
  unfolding run
  run_stop zero b r k = refl
  run_stop (suc n) b r k = refl

  pub run_none : (n : ℕ) (l : LinePosition) (st : List LinePosition) (b r : List ℕ) (k : ℕ) → solve l (line_of w h b l) ≡ none
      → run w h solve (suc n) (l ∷ st) b r k ≡ refused l b r k
  unfolding run
  run_none n l st b r k e = rw e

  pub run_some : (n : ℕ) (l : LinePosition) (st : List LinePosition) (b r : List ℕ) (k : ℕ) (m : List ℕ) → solve l (line_of w h b l) ≡ some m
      → run w h solve (suc n) (l ∷ st) b r k
      ≡ run w h solve n (push_all l (changed 0 (line_of w h b l) m) st) (store w l m b) (r ++ map (place w l) (changed 0 (line_of w h b l) m)) (suc k)
  unfolding run
  run_some n l st b r k m e = rw e

  pub solved_le : (n : ℕ) (st : List LinePosition) (b r : List ℕ) (k : ℕ) → solved_of (run w h solve n st b r k) ≤ n + k
  unfolding run
  solved_le zero st b r k = omega arith
  solved_le (suc n) [] b r k = omega arith
  solved_le (suc n) (l ∷ st) b r k = go (solve l (line_of w h b l)) (λ st' b' r' k'. solved_le n st' b' r' k')
    where
      go : (a : Option (List ℕ)) → ((st' : List LinePosition) (b' r' : List ℕ) (k' : ℕ) → solved_of (run w h solve n st' b' r' k') ≤ n + k')
          → solved_of (on_some a (refused l b r k)
          (λ m. run w h solve n (push_all l (changed 0 (line_of w h b l) m) st) (store w l m b)
          (r ++ map (place w l) (changed 0 (line_of w h b l) m)) (suc k))) ≤ suc n + k
      go none up = omega arith
      go (some m) up =
          omega (
            arith,
            up (push_all l (changed 0 (line_of w h b l) m) st) (store w l m b) (r ++ map (place w l) (changed 0 (line_of w h b l) m))
                (suc k),
          )

  pub full_solved : (b : List ℕ) → solved_of (full_run w h solve b) ≤ w + h + room b
  unfolding full_run
  full_solved b = omega (arith, solved_le (room b + (w + h)) (full_stack w h) b [] 0)

  pub point_solved : (x y : ℕ) (b : List ℕ) → solved_of (point_run w h solve x y b) ≤ 2 + room b
  unfolding point_run
  point_solved x y b = omega (arith, solved_le (room b + 2) (point_stack x y) b [] 0)

  -- the rules have one end at most
  pub runs_one : {st : List LinePosition} {b r : List ℕ} {k : ℕ} {o u : Outcome} → Runs w h solve st b r k o → Runs w h solve st b r k u → o ≡ u
  runs_one stops stops = refl
  runs_one (refuses q) (refuses q') = refl
  runs_one (refuses q) (steps m q' c) = absurd (none≢some (sym q ∙ q'))
  runs_one (steps m q c) (refuses q') = absurd (none≢some (sym q' ∙ q))
  runs_one (steps {l = l} {st = st} {b = b} {r = r} {k = k} m q c) (steps {o = u} m' q' c') =
      runs_one {u = u} c
      (subst
      (λ n. Runs w h solve (push_all l (changed 0 (line_of w h b l) n) st) (store w l n b)
      (r ++ map (place w l) (changed 0 (line_of w h b l) n)) (suc k) u)
      (some_one (sym q' ∙ q)) c')
