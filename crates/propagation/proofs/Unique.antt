-- At most one answer satisfies each public call's statement, and none depends on what the memo and the stack held.
use Rattle.std.specs.Prelude.{Result, Err, Ok}
use mathlib.Core.Path.{◌≡◌, sym, ap, ap₂}
use mathlib.Core.List.{List}
use mathlib.Core.Option.{Option}
use Prim.Native.Nat.{ℕ}
use native.Mathlib.Omega.{arith}
use lib.ListN.{length}
use Rattle.rules.specs.Card.{Card}
use Rattle.rules.specs.Refusal.{Rule, verdict}
use Rattle.rules.specs.Run.{Outcome}
use Rattle.rules.specs.declared.LinePosition.{LinePosition}
use Rattle.rules.specs.declared.Refusal.{Refusal}
use Rattle.rules.proofs.Replies.{same, number_one, by_checking}
use Rattle.rules.proofs.RunSteps.{some_one}
use Rattle.run.specs.declared.Start.{Start}
use Rattle.run.specs.declared.Progress.{Progress}
use Rattle.run.specs.declared.RunError.{RunError}
use Rattle.run.specs.declared.RunError.TheVariants.{Unsolvable, Refused}
use Rattle.propagation.specs.Calls.{run_rules, binary_run_rules, Ran, RunsColoured, RunsBinary}
use Rattle.run.specs.Ends.{Reply, reply_by}

-- a reply's counts tell how far a run came
progress_one : (p q : Progress) {m n : ℕ} {k l : Option LinePosition}
    → ◌≡◌ {A = Reply} (record { number = m; line = k; entries = p.entries; lines = p.lines }) (record { number = n; line = l; entries = q.entries; lines = q.lines }) → p ≡ q
progress_one p q e = ap₂ (λ i j. record { entries = i; lines = j }) (ap (λ t. t.entries) e) (ap (λ t. t.lines) e)

-- a reply tells its answer
pub reply_one : (r s : Result Progress RunError) → reply_by r ≡ reply_by s → r ≡ s
reply_one (Ok p) (Ok q) e = ap (λ x. Ok x) (progress_one p q e)
reply_one (Ok p) (Err (Unsolvable l q)) e = absurd (let z : ◌≡◌ {A = ℕ} 0 8 = ap (λ t. t.number) e in omega arith)
reply_one (Ok p) (Err (Refused w)) e = absurd ((by_checking w).0 (sym (ap (λ t. t.number) e)))
reply_one (Err (Unsolvable l p)) (Ok q) e = absurd (let z : ◌≡◌ {A = ℕ} 8 0 = ap (λ t. t.number) e in omega arith)
reply_one (Err (Unsolvable l p)) (Err (Unsolvable m q)) e =
    ap₂ (λ k x. Err (Unsolvable k x)) (some_one (ap (λ t. t.line) e)) (progress_one p q e)
reply_one (Err (Unsolvable l p)) (Err (Refused w)) e = absurd ((by_checking w).1 (sym (ap (λ t. t.number) e)))
reply_one (Err (Refused w)) (Ok p) e = absurd ((by_checking w).0 (ap (λ t. t.number) e))
reply_one (Err (Refused w)) (Err (Unsolvable l p)) e = absurd ((by_checking w).1 (ap (λ t. t.number) e))
reply_one (Err (Refused w)) (Err (Refused u)) e = ap (λ x. Err (Refused x)) (number_one w u (ap (λ t. t.number) e))

-- the same reply, grid and report, whatever memo and stack held
pub ran_alike : {rules : List Rule} {o : Outcome} {board grid report memo stack memo₂ stack₂ g r m k g₂ r₂ m₂ k₂ : List ℕ} {t u : Reply}
    → Ran rules o board grid report memo stack t g r m k → Ran rules o board grid report memo₂ stack₂ u g₂ r₂ m₂ k₂
    → (t ≡ u) × (g ≡ g₂) × (r ≡ r₂)
ran_alike p q = (same p.tells q.tells, same p.leaves q.leaves, same p.reports q.reports)

-- what two calls with one input have in common: all but memo and stack after 0 and 8
pub record Same (rules : List Rule) (r s : Result Progress RunError) (g x m k g₂ x₂ m₂ k₂ : List ℕ) : Type 0 where
  pub answers : r ≡ s
  pub grids : g ≡ g₂
  pub reports : x ≡ x₂
  pub memos : (w : Refusal) → verdict rules ≡ Err w → m ≡ m₂
  pub stacks : (w : Refusal) → verdict rules ≡ Err w → k ≡ k₂

ran_one : {rules : List Rule} {o : Outcome} {board grid report memo stack g x m k g₂ x₂ m₂ k₂ : List ℕ} (r s : Result Progress RunError)
    → Ran rules o board grid report memo stack (reply_by r) g x m k → Ran rules o board grid report memo stack (reply_by s) g₂ x₂ m₂ k₂
    → Same rules r s g x m k g₂ x₂ m₂ k₂
ran_one r s p q =
    let a = ran_alike p q in
    record {
      answers = reply_one r s a.0;
      grids = a.1;
      reports = a.2;
      memos = λ w e. same (p.kept_memo w e) (q.kept_memo w e);
      stacks = λ w e. same (p.kept_stack w e) (q.kept_stack w e);
    }

-- ---- the calls: `run` where s is Full, `run_point` where it is a point

module _ (w h : ℕ) (s : Start) (c : Card) (grid report memo stack : List ℕ) {g x m k g₂ x₂ m₂ k₂ : List ℕ} (r r₂ : Result Progress RunError) where
  pub coloured_run_one : RunsColoured w h s c grid report memo stack (reply_by r) g x m k → RunsColoured w h s c grid report memo stack (reply_by r₂) g₂ x₂ m₂ k₂
      → Same (run_rules w h s c grid (length report) (length memo) (length stack)) r r₂ g x m k g₂ x₂ m₂ k₂
  coloured_run_one p q = ran_one r r₂ p q

  pub binary_run_one : RunsBinary w h s c grid report memo stack (reply_by r) g x m k → RunsBinary w h s c grid report memo stack (reply_by r₂) g₂ x₂ m₂ k₂
      → Same (binary_run_rules w h s c grid (length report) (length memo) (length stack)) r r₂ g x m k g₂ x₂ m₂ k₂
  binary_run_one p q = ran_one r r₂ p q

-- ---- two calls that differ only in what memo and stack hold answer alike, and leave the same grid and report

module _ (w h : ℕ) (s : Start) (c : Card) (grid report memo stack memo₂ stack₂ : List ℕ) (e : length memo ≡ length memo₂)
    (f : length stack ≡ length stack₂)
    {g x m k g₂ x₂ m₂ k₂ : List ℕ} (r r₂ : Result Progress RunError) where
  pub memory_free : RunsColoured w h s c grid report memo stack (reply_by r) g x m k → RunsColoured w h s c grid report memo₂ stack₂ (reply_by r₂) g₂ x₂ m₂ k₂
      → (r ≡ r₂) × (g ≡ g₂) × (x ≡ x₂)
  memory_free p q = let a = ran_alike (rw (e, f) at p) q in (reply_one r r₂ a.0, a.1, a.2)

  pub binary_memory_free : RunsBinary w h s c grid report memo stack (reply_by r) g x m k
      → RunsBinary w h s c grid report memo₂ stack₂ (reply_by r₂) g₂ x₂ m₂ k₂ → (r ≡ r₂) × (g ≡ g₂) × (x ≡ x₂)
  binary_memory_free p q = let a = ran_alike (rw (e, f) at p) q in (reply_one r r₂ a.0, a.1, a.2)
