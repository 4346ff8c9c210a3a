-- At most one answer satisfies each public call's statement, and none depends on what the memo held.
use Rattle.std.specs.Prelude.{⊤, Result, Err, Ok}
use mathlib.Core.Path.{◌≡◌, refl, sym, ap}
use mathlib.Core.List.{List}
use mathlib.Core.Option.{Option}
use Prim.Native.Nat.{ℕ}
use native.Mathlib.Omega.{arith}
use lib.ListN.{length}
use Rattle.rules.specs.Block.{Lent}
use Rattle.rules.specs.Refusal.{Rule, verdict}
use Rattle.rules.specs.declared.Refusal.{Refusal}
use Rattle.rules.proofs.Replies.{same, number_one, by_checking}
use Rattle.line.specs.Calls.{line_answer_number, line_rules, binary_line_rules, Solves, SolvesLine, SolvesBinaryLine}
use Rattle.line.specs.declared.LineError.{LineError}
use Rattle.line.specs.declared.LineError.TheVariants.{Unsolvable, Refused}

answer_one : (r s : Result ⊤ LineError) → line_answer_number r ≡ line_answer_number s → r ≡ s
answer_one (Ok _) (Ok _) e = refl
answer_one (Ok _) (Err Unsolvable) e = absurd (omega arith)
answer_one (Ok _) (Err (Refused w)) e = absurd ((by_checking w).0 (sym e))
answer_one (Err Unsolvable) (Ok _) e = absurd (omega arith)
answer_one (Err Unsolvable) (Err Unsolvable) e = refl
answer_one (Err Unsolvable) (Err (Refused w)) e = absurd ((by_checking w).1 (sym e))
answer_one (Err (Refused w)) (Ok _) e = absurd ((by_checking w).0 e)
answer_one (Err (Refused w)) (Err Unsolvable) e = absurd ((by_checking w).1 e)
answer_one (Err (Refused w)) (Err (Refused u)) e = ap (λ x. Err (Refused x)) (number_one w u e)

-- the same number and output, whatever the two memos held
pub solves_alike : {rules : List Rule} {a : Option (List ℕ)} {memo memo₂ out m n x y : List ℕ} {r s : ℕ}
    → Solves rules a memo out r m x → Solves rules a memo₂ out s n y → (r ≡ s) × (x ≡ y)
solves_alike p q = (same p.tells q.tells, same p.leaves q.leaves)

-- and, if the input is refused by checking, the same memo
pub one_number : {rules : List Rule} {a : Option (List ℕ)} {memo out m n x y : List ℕ} {r s : ℕ}
    → Solves rules a memo out r m x → Solves rules a memo out s n y
    → (r ≡ s) × (x ≡ y) × ((w : Refusal) → verdict rules ≡ Err w → m ≡ n)
one_number p q = let k = solves_alike p q in (k.0, k.1, λ w e. same (p.kept w e) (q.kept w e))

-- ---- the calls

pub solve_line : (cells : List ℕ) (b : Lent) {memo out m n x y : List ℕ} (r s : Result ⊤ LineError)
    → SolvesLine cells b memo out (line_answer_number r) m x → SolvesLine cells b memo out (line_answer_number s) n y
    → (r ≡ s) × (x ≡ y) × ((w : Refusal) → verdict (line_rules (length cells) b (length memo) (length out)) ≡ Err w → m ≡ n)
solve_line cells b r s p q = let k = one_number p q in (answer_one r s k.0, k.1, k.2)

pub solve_binary_line : (cells sizes : List ℕ) {memo out m n x y : List ℕ} (r s : Result ⊤ LineError)
    → SolvesBinaryLine cells sizes memo out (line_answer_number r) m x → SolvesBinaryLine cells sizes memo out (line_answer_number s) n y
    → (r ≡ s) × (x ≡ y) × ((w : Refusal) → verdict (binary_line_rules cells sizes (length memo) (length out)) ≡ Err w → m ≡ n)
solve_binary_line cells sizes r s p q = let k = one_number p q in (answer_one r s k.0, k.1, k.2)

-- ---- two calls that differ only in what the memo holds answer alike, and leave the same output

pub line_memo_free : (cells : List ℕ) (b : Lent) (memo memo₂ : List ℕ) → length memo ≡ length memo₂ → {out m n x y : List ℕ} (r s : Result ⊤ LineError)
    → SolvesLine cells b memo out (line_answer_number r) m x → SolvesLine cells b memo₂ out (line_answer_number s) n y → (r ≡ s) × (x ≡ y)
line_memo_free cells b memo memo₂ e r s p q = let k = solves_alike (rw e at p) q in (answer_one r s k.0, k.1)

pub binary_memo_free : (cells sizes memo memo₂ : List ℕ) → length memo ≡ length memo₂ → {out m n x y : List ℕ} (r s : Result ⊤ LineError)
    → SolvesBinaryLine cells sizes memo out (line_answer_number r) m x → SolvesBinaryLine cells sizes memo₂ out (line_answer_number s) n y → (r ≡ s) × (x ≡ y)
binary_memo_free cells sizes memo memo₂ e r s p q = let k = solves_alike (rw e at p) q in (answer_one r s k.0, k.1)
