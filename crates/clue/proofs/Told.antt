-- The statements of the public calls, from what their parts tell.
use Rattle.std.specs.Prelude.{Ok}
use Rattle.clue.specs.Calls.{room_rules, code_rules}
use Rattle.rules.specs.Clue.{clue, black_clue}
use Prim.Native.Nat.{◌≤◌, ℕ}
use borrow.Author.Tests.{not-false, leb-true}
use lib.Dec.{leb}
use lib.ListN.{length, length-map}
use mathlib.Core.Bool.{Bool, true, false, not}
use mathlib.Core.List.{List, [], ◌∷◌, ◌++◌}
use mathlib.Core.Path.{◌≡◌, sym, ◌∙◌, ap₂}
use native.Mathlib.Omega.{arith}
use Rattle.clue.proofs.Runs.{entries_low}
use Rattle.clue.specs.Steps.{entries}
use Rattle.clue.specs.declared.Ink.TheVariants.{Coloured, Black}
use Rattle.clue.specs.declared.Part.TheVariants.{Each}
use Rattle.clue.specs.declared.Field.TheVariants.{Colour, Size}
use Rattle.loops.proofs.Going.{put_count, put_written}
use Rattle.loops.specs.Put.{Put}
use Rattle.rules.proofs.Replies.{writes_done, blocks_done}
use Rattle.rules.proofs.Verdicts.{fine_cons, append_parts, length_fine}
use Rattle.rules.specs.Block.{sizes_by}
use Rattle.rules.specs.Refusal.{Rule, ◌when◌, verdict, length_rules, Writes, WritesBlocks}
use Rattle.rules.specs.declared.Refusal.TheVariants.{BadRoom, BadCode}

-- ---- the rules, one group after the other

pub codes_fine : (xs : List Rule) (fits bad : Bool) → verdict (xs ++ code_rules fits bad) ≡ Ok tt → (verdict xs ≡ Ok tt) × (fits ≡ true) × (bad ≡ false)
codes_fine xs fits bad e =
    let p = append_parts xs (code_rules fits bad) e in
    let q = fine_cons (BadRoom when not fits) (BadCode when bad ∷ []) p.1 in
    (p.0, not-false fits q.0, (fine_cons (BadCode when bad) [] q.1).0)

pub room_fine : (xs : List Rule) (fits : Bool) → verdict (xs ++ room_rules fits) ≡ Ok tt → (verdict xs ≡ Ok tt) × (fits ≡ true)
room_fine xs fits e = let p = append_parts xs (room_rules fits) e in (p.0, not-false fits (fine_cons (BadRoom when not fits) [] p.1).0)

pub line_fine : (n : ℕ) (t u : Bool) → verdict (length_rules n ++ code_rules t u) ≡ Ok tt → (n ≤ 64) × (t ≡ true)
line_fine n t u e = let p = codes_fine (length_rules n) t u e in ((length_fine n p.0).1, p.1)

pub binary_line_fine : (n room : ℕ) → verdict (length_rules n ++ room_rules (leb n room)) ≡ Ok tt → (n ≤ 64) × (n ≤ room)
binary_line_fine n room e = let p = room_fine (length_rules n) (leb n room) e in ((length_fine n p.0).1, leb-true n room p.1)

-- the same rules by the results of the code's own tests
pub line_same : (n : ℕ) {x y t u : Bool} → t ≡ x → u ≡ y → verdict (length_rules n ++ code_rules x y) ≡ verdict (length_rules n ++ code_rules t u)
line_same n te ue = ap₂ (λ a b. verdict (length_rules n ++ code_rules a b)) (sym te) (sym ue)

-- ---- a line

module _ (e : ℕ) (l : List ℕ) where
  pub coloured_done : {rules : List Rule} {s c s' c' : List ℕ} {n m : ℕ} → verdict rules ≡ Ok tt → Put s 0 (entries (Each Size) (clue e l)) n s'
      → Put c 0 (entries (Each Colour) (clue e l)) m c'
      → length l ≤ length s → length l ≤ length c → WritesBlocks rules (clue e l) s c (Ok n) s' c'
  coloured_done v p q a b =
      blocks_done v (put_count p ∙ length-map (clue e l) (λ b. b.size))
      (put_written p (omega (arith, entries_low Coloured (Each Size) e l))) (put_written q (omega (arith, entries_low Coloured (Each Colour) e l)))

  pub binary_done : {rules : List Rule} {s s' : List ℕ} {n : ℕ} → verdict rules ≡ Ok tt → Put s 0 (entries (Each Size) (black_clue e l)) n s'
      → length l ≤ length s → Writes rules (sizes_by (black_clue e l)) s (Ok n) s'
  binary_done v p a = writes_done v (put_count p) (put_written p (omega (arith, entries_low Black (Each Size) e l)))
