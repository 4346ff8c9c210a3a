-- Demand 2 of the calls' own answers: 8 exactly if no placement agrees; else each cell holds exactly the colours that agreeing placements give it.
use Rattle.std.specs.Prelude.{Err, Ok}
use Rattle.rules.specs.Refusal.{verdict, Verdict}
use mathlib.Core.Path.{◌≡◌, refl, sym, ap, subst, ◌∙◌}
use mathlib.Core.Logic.{◌↔◌}
use mathlib.Core.List.{List, map}
use mathlib.Core.Option.{Option, none, some}
use Prim.Native.Nat.{ℕ, ◌≤◌, ◌<◌}
use native.Mathlib.Omega.{arith}
use lib.ListN.{length, get_or, length-map}
use Rattle.rules.specs.Block.{Lent, black}
use Rattle.rules.specs.Placement.{Placement}
use Rattle.rules.specs.Answer.{Fitting, Differing, Refused, Exact, Answers, Proper}
use Rattle.rules.specs.Binary.{set_by, cell_of, line_answer, read_back_of}
use Rattle.rules.proofs.Placements.{placement_proper}
use Rattle.rules.proofs.Answers.{narrows}
use Rattle.rules.proofs.Binaries.{line_right, line_only, sets_small, binary_white, binary_black, binary_open}
use Rattle.rules.proofs.Blocks.{test_legal}
use Rattle.rules.proofs.Colours.{subset_num}
use Rattle.rules.proofs.Replies.{by_checking}
use Rattle.line.specs.Calls.{number_of, output, line_rules, binary_line_rules, SolvesLine, SolvesBinaryLine}
use Rattle.line.proofs.Told.{binary_ready, binary_small}

-- what the numbers 8 and 0 say of rules and answer
told_eight : (v : Verdict) (a : Option (List ℕ)) → 8 ≡ number_of v a → a ≡ none
told_eight (Err w) a e = absurd ((by_checking w).1 (sym e))
told_eight (Ok _) none e = refl
told_eight (Ok _) (some m) e = absurd (omega arith)

told_zero : (v : Verdict) (a : Option (List ℕ)) (out : List ℕ) → 0 ≡ number_of v a → (v ≡ Ok tt) × (a ≡ some (output v a out))
told_zero (Err w) a out e = absurd ((by_checking w).0 (sym e))
told_zero (Ok _) none out e = absurd (omega arith)
told_zero (Ok _) (some m) out e = (refl, refl)

-- ---- a coloured line

module _ (cells : List ℕ) (b : Lent) {memo out m x : List ℕ} where
  pub line_eight : SolvesLine cells b memo out 8 m x → Refused (Placement b.list (length cells)) cells
  line_eight s =
      subst (Answers (Placement b.list (length cells)) cells)
      (told_eight (verdict (line_rules (length cells) b (length memo) (length out))) (line_answer b.list cells) s.tells)
      (line_right b.list (length cells) cells)

  pub line_refused : (n : ℕ) → verdict (line_rules (length cells) b (length memo) (length out)) ≡ Ok tt
      → Refused (Placement b.list (length cells)) cells → SolvesLine cells b memo out n m x → n ≡ 8
  line_refused n e r s = s.tells ∙ rw (e, line_only b.list cells none r)

  pub line_zero : SolvesLine cells b memo out 0 m x → Exact (Placement b.list (length cells)) cells x
  line_zero s =
      let t = told_zero (verdict (line_rules (length cells) b (length memo) (length out))) (line_answer b.list cells) out s.tells in
      subst (Answers (Placement b.list (length cells)) cells) (t.1 ∙ ap (λ l. some l) (sym s.leaves))
      (line_right b.list (length cells) cells)

-- ---- a binary line, of which the sets are read

no_answer : (o : Option (List ℕ)) → read_back_of o ≡ none → o ≡ none
no_answer none e = refl
no_answer (some u) e = let z : ◌≡◌ {A = ℕ} 0 1 = cc in absurd (omega arith)

read_back : (o : Option (List ℕ)) (l : List ℕ) → read_back_of o ≡ some l → (u : List ℕ) × ((o ≡ some u) × (l ≡ map cell_of u))
read_back none l e = let z : ◌≡◌ {A = ℕ} 0 1 = cc in absurd (omega arith)
read_back (some u) l e = (u, (refl, cc))

module _ (cells sizes : List ℕ) where
  abbrev pub sets : List ℕ
  sets = map set_by cells

  abbrev pub P : List ℕ → Type 0
  P = Placement (map black sizes) (length sets)

  module _ {memo out m x : List ℕ} where
    pub binary_eight : SolvesBinaryLine cells sizes memo out 8 m x → Refused P sets
    binary_eight s =
        let e = told_eight (verdict (binary_line_rules cells sizes (length memo) (length out))) (read_back_of (line_answer (map black sizes) sets)) s.tells in
        subst (Answers P sets) (no_answer (line_answer (map black sizes) sets) e) (line_right (map black sizes) (length sets) sets)

    pub binary_refused : (n : ℕ) → verdict (binary_line_rules cells sizes (length memo) (length out)) ≡ Ok tt → Refused P sets
        → SolvesBinaryLine cells sizes memo out n m x → n ≡ 8
    binary_refused n e r s = s.tells ∙ rw (e, line_only (map black sizes) sets none r)

    solved_sets : SolvesBinaryLine cells sizes memo out 0 m x → (u : List ℕ) × (Exact P sets u × (x ≡ map cell_of u))
    solved_sets s =
        let t = told_zero (verdict (binary_line_rules cells sizes (length memo) (length out))) (read_back_of (line_answer (map black sizes) sets)) out
        s.tells in
        let r = read_back (line_answer (map black sizes) sets) x (t.1 ∙ ap (λ l. some l) (sym s.leaves)) in
        (r.0, (subst (Answers P sets) r.1.0 (line_right (map black sizes) (length sets) sets), r.1.1))

    module _ (s : SolvesBinaryLine cells sizes memo out 0 m x) (i : ℕ) (h : i < length cells) where
      told : verdict (binary_line_rules cells sizes (length memo) (length out)) ≡ Ok tt
      told =
          (told_zero (verdict (binary_line_rules cells sizes (length memo) (length out))) (read_back_of (line_answer (map black sizes) sets)) out s.tells).0

      proper : (p : List ℕ) → P p → Proper p
      proper p l = placement_proper (test_legal (map black sizes) (binary_ready cells sizes memo out told).legal) p l

      -- white exactly if they all say so
      pub binary_zero_white : (get_or x i 0 ≡ 1) ↔ ((p : List ℕ) → Fitting P sets p → get_or p i 0 ≡ 1)
      binary_zero_white =
          let u = solved_sets s in
          subst (λ (l : List ℕ). (get_or l i 0 ≡ 1) ↔ ((p : List ℕ) → Fitting P sets p → get_or p i 0 ≡ 1)) (sym u.1.1)
          (binary_white proper u.1.0 i (omega (arith, length-map cells set_by)))

      -- black exactly if they all say so
      pub binary_zero_black : (get_or x i 0 ≡ 2) ↔ ((p : List ℕ) → Fitting P sets p → get_or p i 0 ≡ 2)
      binary_zero_black =
          let u = solved_sets s in
          subst (λ (l : List ℕ). (get_or l i 0 ≡ 2) ↔ ((p : List ℕ) → Fitting P sets p → get_or p i 0 ≡ 2)) (sym u.1.1)
          (binary_black proper u.1.0 i (omega (arith, length-map cells set_by)))

      -- undefined exactly if two of them differ
      pub binary_zero_open : (get_or x i 0 ≡ 0) ↔ Differing P sets i
      binary_zero_open =
          let u = solved_sets s in
          subst (λ (l : List ℕ). (get_or l i 0 ≡ 0) ↔ Differing P sets i) (sym u.1.1)
          (binary_open proper u.1.0 i (omega (arith, length-map cells set_by)) (small u.0 u.1.0))
        where
          small : (m : List ℕ) → Exact P sets m → get_or m i 0 ≤ 3
          small m y =
              omega (
                arith,
                subset_num (get_or m i 0) (get_or sets i 0) ((narrows proper y).each i),
                sets_small cells (binary_small cells sizes memo out told) i,
              )
