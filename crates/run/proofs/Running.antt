-- The loop of a run: what is left to run gives the whole.
use Rattle.std.specs.Prelude.{Ok, Err}
use mathlib.Core.Path.{◌≡◌, refl, sym, ap, ◌∙◌, subst}
use mathlib.Core.List.{List, [], ◌∷◌, ◌++◌, Memᴰ}
use Prim.Native.Nat.{ℕ, suc, ◌+◌, ◌-◌, ◌≤◌, ◌<◌}
use native.Mathlib.Numerals.{add-one}
use native.Mathlib.Omega.{arith}
use lib.ListN.{length, length-map}
use Rattle.rules.specs.Answer.{Exact, Answers}
use Rattle.rules.specs.Board.{len, On, place, line_of, store}
use Rattle.rules.specs.Card.{Card, clue_of, Straight, solve_straight}
use Rattle.rules.specs.Run.{push_all, room, Outcome, done, refused, run}
use Rattle.rules.specs.declared.LinePosition.{LinePosition}
use Rattle.rules.proofs.Boards.{length_store}
use Rattle.rules.proofs.Cards.{straight_proper, straight_right}
use Rattle.rules.proofs.Runs.{room_step, measure_step, js_lt}
use Rattle.rules.proofs.RunSteps.{run_stop, run_none, run_some}
use Rattle.rules.specs.Refusal.{stack_size}
use Rattle.loops.specs.Put.{Put}
use Rattle.loops.proofs.Going.{put_then, put_count, put_length}
use Rattle.grid.specs.declared.report.Report.{Report}
use Rattle.grid.specs.Grid.{Grid, changes, news, Reports}
use Rattle.stack.specs.declared.Stack.{Stack}
use Rattle.stack.specs.Stack.{lines_on, Kept, Lines}
use Rattle.stack.proofs.Onces.{lines_fit, lines_push, lines_rest}
use Rattle.stack.proofs.Piling.{kept_then, count_on}
use Rattle.card.specs.Steps.{RightCard}
use Rattle.card.proofs.Clued.{clue_legal}
use Rattle.run.specs.declared.RunError.TheVariants.{Unsolvable}
use Rattle.update.specs.Steps.{Refuses, Moves}
use Rattle.run.specs.Steps.{Begins, Ended}
use Rattle.grid.proofs.Rows.{sized}

module _ (w h : ℕ) (c : Card) (b₀ : List ℕ) (r₀ : Report) (s₀ : Stack) where
  abbrev pub whole : Outcome
  whole = run w h (solve_straight w h (clue_of c)) (room b₀ + s₀.count) (lines_on s₀) b₀ [] 0

  -- with the fuel that is left, the run from here comes to the same end; what was told stands in the report
  pub record Running (b : List ℕ) (r : Report) (s : Stack) (lines : ℕ) : Type 0 where
    pub kept : Kept s₀ s
    pub fuel : ℕ
    pub told : List ℕ
    pub enough : room b + s.count ≤ fuel
    pub spent : lines + fuel ≡ room b₀ + s₀.count
    pub same : run w h (solve_straight w h (clue_of c)) fuel (lines_on s) b told lines ≡ whole
    pub grid : Grid w h b
    pub all : Lines w h (lines_on s)
    pub fresh : r₀.count ≡ 0
    pub reports : Reports r₀ told r
    pub spare : r.count + room b ≤ length r.cells.now

  module _ {memo column answer : List ℕ} (v : Begins w h c b₀ r₀ memo column answer s₀) where
    pub run_starts : Running b₀ r₀ s₀ 0
    run_starts =
        record {
          kept = record { same = refl; long = refl };
          fuel = room b₀ + s₀.count;
          told = [];
          enough = omega arith;
          spent = omega arith;
          same = refl;
          grid = v.grid;
          all = v.lines;
          fresh = v.fresh;
          reports = record { same = refl; puts = record { end = omega arith; holds = refl } };
          spare = omega (arith, v.fresh, v.reports);
        }

  module _ (right : RightCard w h c) {b : List ℕ} {r : Report} {s : Stack} {lines : ℕ} (g : Running b r s lines) where
    pub few : s.count ≤ stack_size
    few = omega (arith, lines_fit g.grid.wide_most g.grid.high_most g.all, count_on s)

    -- what was told stands in the list from its front on
    puts : Put r₀.cells.now 0 g.told r.count r.cells.now
    puts = rw g.fresh at g.reports.puts

    pub run_stops : lines_on s ≡ [] → Ended whole (Ok (record { entries = r.count; lines = lines })) b r₀.cells.now r.cells.now
    run_stops e =
        let o : whole ≡ done b g.told lines =
        sym (rw e at g.same) ∙ run_stop w h (solve_straight w h (clue_of c)) g.fuel b g.told lines in
        record { tells = rw (o, put_count puts); board = rw o; reports = rw o puts.holds }

    -- the line on top, and the stack without it
    module _ (l : LinePosition) (t : Stack) (top : lines_on s ≡ l ∷ lines_on t) where
      lines_top : Lines w h (l ∷ lines_on t)
      lines_top = rw top at g.all

      fueled : (k : ℕ) × (g.fuel ≡ suc k)
      fueled = (g.fuel - 1, omega (arith, g.enough, count_on s, ap length top))

      pub run_refuses : {b' : List ℕ} {r' : Report} → Refuses w h c l b r b' r'
          → Ended whole (Err (Unsolvable l (record { entries = r'.count; lines = lines }))) b' r₀.cells.now r'.cells.now
      run_refuses d =
          let k = fueled in
          let o : whole ≡ refused l b g.told lines =
          sym (rw (k.1, top) at g.same)
          ∙ run_none w h (solve_straight w h (clue_of c)) k.0 l (lines_on t) b g.told lines d.refused in
          rw d.reports record { tells = rw (o, put_count puts); board = rw o d.board; reports = rw o puts.holds }

      module _ {b' : List ℕ} {r' : Report} {s' : Stack} (d : Moves w h c l b r t b' r' s') where
        abbrev js : List ℕ
        js = changes w h l d.cells b

        on_it : On w h l
        on_it = lines_top.on l (Memᴰ.head refl)

        exact : Exact (Straight w h (clue_of c) l) (line_of w h b l) d.cells
        exact =
            subst (Answers (Straight w h (clue_of c) l) (line_of w h b l)) d.solved
            (straight_right w h (clue_of c) (clue_legal right) l (line_of w h b l))

        falls : room (store w l d.cells b) + length js ≤ room b
        falls =
            room_step w h (straight_proper w h (clue_of c) (clue_legal right)) g.grid.wide g.grid.high (solve_straight w h (clue_of c))
            (straight_right w h (clue_of c) (clue_legal right)) l (lines_on t) b d.cells on_it exact (sized g.grid)

        measure : room (store w l d.cells b) + length (push_all l js (lines_on t)) ≤ room b + length (lines_on t)
        measure =
            measure_step w h (straight_proper w h (clue_of c) (clue_legal right)) g.grid.wide g.grid.high (solve_straight w h (clue_of c))
            (straight_right w h (clue_of c) (clue_legal right)) l (lines_on t) b d.cells on_it exact (sized g.grid)

        small : (j : ℕ) → Memᴰ j js → j < len w h l
        small j u =
            js_lt w h (straight_proper w h (clue_of c) (clue_legal right)) g.grid.wide g.grid.high (solve_straight w h (clue_of c))
            (straight_right w h (clue_of c) (clue_legal right)) l (lines_on t) b d.cells on_it exact (sized g.grid) u

        -- fewer colours to lose and lines to take
        pub run_less : room b' + s'.count < room b + s.count
        run_less = omega (arith, measure, count_on s, count_on t, count_on s', ap length top, ap length d.stacks, ap room d.board)

        pub run_moves : Kept s s' → Running b' r' s' (lines + 1)
        run_moves k' =
            let k = fueled in
            record {
              kept = kept_then g.kept k';
              fuel = k.0;
              told = g.told ++ news w h l d.cells b;
              enough = omega (arith, run_less, g.enough, k.1);
              spent = omega (arith, g.spent, k.1);
              same =
                  rw (d.stacks, d.board, add-one lines)
                  (sym
                  (run_some w h (solve_straight w h (clue_of c)) k.0 l (lines_on t) b g.told lines d.cells d.solved)
                  ∙ rw (k.1, top) at g.same);
              grid =
                  record {
                    wide = g.grid.wide;
                    wide_most = g.grid.wide_most;
                    high = g.grid.high;
                    high_most = g.grid.high_most;
                    size = ap length d.board ∙ length_store w h l d.cells b ∙ g.grid.size;
                  };
              all = rw d.stacks (lines_rest (lines_push lines_top js small));
              fresh = g.fresh;
              reports = record { same = d.reports.same ∙ g.reports.same; puts = put_then g.reports.puts d.reports.puts };
              spare = omega (arith, d.reports.puts.end, put_length d.reports.puts, g.spare, falls, ap room d.board, length-map js (place w l));
            }
