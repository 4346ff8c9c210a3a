-- From the rules and the solver's answer to the promise: what a caller who has judged a line knows, and what the calls then tell.
use Rattle.std.specs.Prelude.{Ok}
use mathlib.Core.Path.{◌≡◌, refl, sym, ap, ◌∙◌}
use mathlib.Core.Bool.{Bool, true, false}
use mathlib.Core.List.{List, ◌++◌, map}
use mathlib.Core.Option.{Option, none, some}
use Prim.Native.Nat.{ℕ, ◌≤◌}
use native.Mathlib.Omega.{arith}
use borrow.Author.Tests.{eqb-true, leb-true}
use lib.Dec.{eqb, leb}
use lib.ListN.{length, get_or, take, replicate, length-replicate, length-map}
use lib.Seq.{sets}
use Rattle.rules.specs.Block.{Lent, binary}
use Rattle.rules.specs.Binary.{set_by, cell_of, line_answer, read_back_of, binary_answer}
use Rattle.rules.specs.Refusal.{verdict, length_rules, block_rules, cell_rules, memo_size}
use Rattle.rules.proofs.Tests.{both_true, true_not_false}
use Rattle.rules.proofs.Verdicts.{append_parts, length_fine, blocks_fine, cells_fine}
use Rattle.loops.proofs.Stores.{sets_whole, take_sets}
use Rattle.line.specs.Calls.{room_for, binary_line_rules}
use Rattle.solver.specs.Steps.{Solvable, Tried, outcome}
use Rattle.line.specs.Steps.{JudgedLine, Works}

-- ---- what a line that keeps the rules is

module _ (cells : List ℕ) (b : Lent) (memo out : List ℕ) where
  rules_ready : verdict (length_rules (length cells)) ≡ Ok tt → verdict (block_rules b (room_for (length cells) (length memo) (length out))) ≡ Ok tt
      → JudgedLine cells b memo out
  rules_ready d e =
      let l = length_fine (length cells) d in
      let k = blocks_fine b (room_for (length cells) (length memo) (length out)) e in
      let r = both_true (eqb (length out) (length cells)) (leb memo_size (length memo)) k.counted.room in
      record {
        some = l.0;
        short = l.1;
        paired = k.counted.one_length;
        few = k.counted.few;
        legal = k.legal;
        room = leb-true memo_size (length memo) r.1;
        exact = eqb-true (length out) (length cells) r.0;
      }

module _ (cells sizes memo out : List ℕ) (e : verdict (binary_line_rules cells sizes (length memo) (length out)) ≡ Ok tt) where
  abbrev has_room : Bool
  has_room = room_for (length cells) (length memo) (length out)

  parts : (verdict (length_rules (length cells)) ≡ Ok tt) × (verdict (block_rules (binary sizes) has_room) ≡ Ok tt) × (verdict (cell_rules cells) ≡ Ok tt)
  parts =
      let p = append_parts (length_rules (length cells)) (block_rules (binary sizes) has_room ++ cell_rules cells) e in
      let q = append_parts (block_rules (binary sizes) has_room) (cell_rules cells) p.1 in
      (p.0, q.0, q.1)

  pub binary_ready : JudgedLine cells (binary sizes) memo out
  binary_ready = rules_ready cells (binary sizes) memo out parts.0 parts.1

  pub binary_small : (i : ℕ) → get_or cells i 0 ≤ 2
  binary_small = cells_fine cells parts.2

-- ---- a line of sets, that were written to a new line

module _ (cells : List ℕ) (b : Lent) {memo out : List ℕ} (R : JudgedLine cells b memo out) where
  pub line_solvable : Solvable (length cells) b.list memo (replicate 64 0)
  line_solvable = record {
    some = R.some;
    fits = record { short = R.short; few = R.few };
    legal = R.legal;
    room = R.room;
    clean = refl;
  }

  -- what the solver found is the answer of these cells
  pub line_told : {xs : List ℕ} → xs ≡ sets (replicate 64 0) 0 cells → {r : Bool} {work : List ℕ} → Tried (length cells) b.list xs r work
      → line_answer b.list cells ≡ outcome r (take (length cells) work)
  line_told {xs} e t = sym (ap (line_answer b.list) cells_held) ∙ t.tells
    where
      cells_held : take (length cells) xs ≡ cells
      cells_held = ap (take (length cells)) e ∙ take_sets cells (replicate 64 0) (omega (arith, R.short, length-replicate {A = ℕ} 64 0))

-- ---- what a line's work tells

module _ {a : Option (List ℕ)} {out : List ℕ} where
  pub works_none : a ≡ none → Works a out false out
  works_none e = record { tells = e; stays = λ z. refl }

  pub works_some : {out' m : List ℕ} → a ≡ some m → out' ≡ m → Works a out true out'
  works_some e q = record { tells = e ∙ ap (λ l. some l) (sym q); stays = λ z. absurd (true_not_false z) }

-- ---- a binary line is such a line: of its cells' sets

module _ (cells sizes : List ℕ) {memo out copied held : List ℕ} (R : JudgedLine cells (binary sizes) memo out) (part : List ℕ) (l : length cells ≡ length part)
    (k : copied ≡ sets part 0 cells) (s : held ≡ map set_by copied) where
  e : held ≡ map set_by cells
  e = s ∙ ap (map set_by) (k ∙ sets_whole cells part l)

  pub sets_ready : JudgedLine held (binary sizes) memo out
  sets_ready = record {
    some = omega (arith, R.some, held_long);
    short = omega (arith, R.short, held_long);
    paired = R.paired;
    few = R.few;
    legal = R.legal;
    room = R.room;
    exact = R.exact ∙ sym held_long;
  }
    where
      held_long : length held ≡ length cells
      held_long = ap length e ∙ length-map cells set_by

  -- its answer is theirs, read back
  told_back : {r : Bool} {out' : List ℕ} → Works (line_answer (binary sizes).list held) out r out' → binary_answer sizes cells ≡ read_back_of (outcome r out')
  told_back t = ap (λ l. read_back_of (line_answer (binary sizes).list l)) (sym e) ∙ ap read_back_of t.tells

  pub back_none : {out' : List ℕ} → Works (line_answer (binary sizes).list held) out false out' → Works (binary_answer sizes cells) out false out'
  back_none t = record { tells = told_back t; stays = t.stays }

  pub back_some : {out' out'' : List ℕ} → Works (line_answer (binary sizes).list held) out true out' → out'' ≡ map cell_of out'
      → Works (binary_answer sizes cells) out true out''
  back_some t q = works_some (told_back t) q
