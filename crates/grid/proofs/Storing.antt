-- The loop that stores a line cell by cell: what is left to store and to report gives the whole.
use mathlib.Core.Path.{◌≡◌, refl, sym, ap, ◌∙◌}
use mathlib.Core.Bool.{cond}
use mathlib.Core.Logic.{◌≢◌}
use mathlib.Core.List.{List, [], ◌∷◌, map}
use Prim.Native.Nat.{ℕ, suc, ◌+◌, ◌≤◌, ◌<◌}
use native.Mathlib.Numerals.{add-one}
use native.Mathlib.Omega.{arith}
use borrow.Author.Tests.{eq-eqb, ne_eqb}
use lib.Dec.{eqb}
use lib.ListN.{length, get_or, set, drop, length-set, length-map, drop_of_length-le}
use lib.Seq.{drop-cons, set-get_or, get_or-set_other}
use Rattle.rules.specs.Board.{len, place, line_of, put, store}
use Rattle.rules.specs.Run.{changed}
use Rattle.rules.specs.declared.LinePosition.{LinePosition}
use Rattle.rules.specs.declared.LinePosition.TheVariants.{Row, Column}
use Rattle.rules.proofs.Boards.{place_inj, length_line, get_or_line}
use Rattle.loops.proofs.Going.{Going, going_start, going_on, going_puts, going_done}
use Rattle.grid.specs.Grid.{Grid, changes, news, Reports, Storable, Stored}
use Rattle.grid.specs.declared.report.Report.{Report}

pub len_most : {w h : ℕ} {b : List ℕ} → Grid w h b → (l : LinePosition) → len w h l ≤ 64
len_most g (Row y) = g.wide_most
len_most g (Column x) = g.high_most

module _ (w h : ℕ) (l : LinePosition) (m b₀ : List ℕ) (r₀ : Report) where
  -- the indexes from j on that will change
  abbrev pub to_store : ℕ → List ℕ
  to_store j = changed j (drop j (line_of w h b₀ l)) (drop j m)

  pub record Storing (b : List ℕ) (r : Report) (j : ℕ) : Type 0 where
    pub upto : j ≤ length m
    pub size : length b ≡ length b₀
    pub board : put (place w l) j (drop j m) b ≡ store w l m b₀
    pub same : r.cells.ghost_name ≡ r₀.cells.ghost_name
    pub reports : Going r₀.cells.now r₀.count (news w h l m b₀) r.cells.now r.count (map (place w l) (to_store j))
    pub fresh : (i : ℕ) → j ≤ i → i < len w h l → get_or b (place w l i) 0 ≡ get_or b₀ (place w l i) 0

  pub store_start : Storing b₀ r₀ 0
  unfolding store
  store_start =
      record {
        upto = omega arith;
        size = refl;
        board = refl;
        same = refl;
        reports = going_start r₀.cells.now r₀.count (news w h l m b₀);
        fresh = λ i p q. refl;
      }

  module _ (s : Storable w h l m b₀ r₀) where
    module _ {b : List ℕ} {r : Report} {j : ℕ} (v : Storing b r j) (p : j < length m) where
      inside : j < len w h l
      inside = omega (arith, s.exact)

      left_cons : to_store j ≡ cond (eqb (get_or b (place w l j) 0) (get_or m j 0)) (to_store (suc j)) (j ∷ to_store (suc j))
      left_cons =
          let e : get_or (line_of w h b₀ l) j 0 ≡ get_or b (place w l j) 0 = get_or_line w h b₀ l j inside ∙ sym (v.fresh j (omega arith) inside) in
          rw (drop-cons (line_of w h b₀ l) j 0 (omega (arith, length_line w h b₀ l, inside)), drop-cons m j 0 p, e)

      board_cons : put (place w l) (suc j) (drop (suc j) m) (set b (place w l j) (get_or m j 0)) ≡ store w l m b₀
      board_cons = rw (drop-cons m j 0 p) at v.board

      pub store_same : get_or b (place w l j) 0 ≡ get_or m j 0 → Storing b r (j + 1)
      store_same e =
          let k : to_store j ≡ to_store (j + 1) = left_cons ∙ rw (eq-eqb (get_or b (place w l j) 0) (get_or m j 0) e, add-one j) in
          record {
            upto = omega arith;
            size = v.size;
            board =
                rw (add-one j)
                (ap (put (place w l) (suc j) (drop (suc j) m)) (sym (ap (set b (place w l j)) (sym e) ∙ set-get_or b (place w l j) 0)) ∙ board_cons);
            same = v.same;
            reports = going_on v.reports (ap (map (place w l)) k);
            fresh = λ i q u. v.fresh i (omega arith) u;
          }

      more : get_or b (place w l j) 0 ≢ get_or m j 0 → to_store j ≡ j ∷ to_store (j + 1)
      more d = left_cons ∙ rw (ne_eqb (get_or b (place w l j) 0) (get_or m j 0) d, add-one j)

      pub room_for : get_or b (place w l j) 0 ≢ get_or m j 0 → r.count < length r.cells.now
      room_for d =
          omega (
            arith,
            v.reports.count,
            v.reports.long,
            s.room,
            ap length (more d),
            length-map (changes w h l m b₀) (place w l),
            length-map (to_store j) (place w l),
          )

      pub store_change : get_or b (place w l j) 0 ≢ get_or m j 0 → {r' : Report} → Reports r (place w l j ∷ []) r'
          → Storing (set b (place w l j) (get_or m j 0)) r' (j + 1)
      store_change d a =
          record {
            upto = omega arith;
            size = length-set b (place w l j) (get_or m j 0) ∙ v.size;
            board = rw (add-one j) board_cons;
            same = a.same ∙ v.same;
            reports = going_puts v.reports (ap (map (place w l)) (more d)) a.puts;
            fresh = λ i q u.
                get_or-set_other b (place w l j) (place w l i) (get_or m j 0) 0 (λ e. omega (arith, place_inj w h l i j s.on u inside e))
                ∙ v.fresh i (omega arith) u;
          }

    pub store_end : {b : List ℕ} {r : Report} {j : ℕ} → Storing b r j → length m ≤ j → Stored w h l m b₀ r₀ b r
    store_end {j = j} v p =
        let e = drop_of_length-le m {i = j} p in
        let f = drop_of_length-le (line_of w h b₀ l) {i = j} (omega (arith, length_line w h b₀ l, s.exact)) in
        record { board = rw e at v.board; reports = record { same = v.same; puts = going_done v.reports (rw f) } }
