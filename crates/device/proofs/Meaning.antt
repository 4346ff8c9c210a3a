-- What the exported calls that solve or run, or tell binary clues, say in the words of C: their number or their struct. s is Full for a full
-- run, else a point.
use Rattle.std.specs.Prelude.{Ok}
use mathlib.Core.Path.{◌≡◌, sym, ap, ◌∙◌}
use mathlib.Core.List.{List, map}
use Prim.Native.Nat.{ℕ, ◌<◌, ◌≤◌}
use lib.ListN.{length, take}
use Rattle.rules.specs.Binary.{set_by}
use Rattle.rules.specs.Block.{Lent, black}
use Rattle.rules.specs.Board.{Picture}
use Rattle.rules.specs.Card.{Card, clue_of, Straight}
use Rattle.rules.specs.Clue.{black_white}
use Rattle.rules.specs.Placement.{Placement}
use Rattle.rules.specs.Refusal.{GoodSides}
use Rattle.clue.specs.Calls.{BinaryClue}
use Rattle.clue.proofs.Again.{own_clue}
use Rattle.picture.specs.Calls.{BinaryClues, black_card_in}
use Rattle.picture.specs.Calls.{totals}
use Rattle.picture.proofs.Fitted.{Fitted}
use Rattle.picture.proofs.Pictures.{own_clues}
use Rattle.line.specs.Calls.{SolvesLine, SolvesBinaryLine}
use Rattle.line.proofs.Unique.{solves_alike}
use Rattle.run.specs.Ends.{Reply}
use Rattle.run.specs.declared.Start.{Start}
use Rattle.propagation.specs.Answered.{coloured, binary, Halted}
use Rattle.propagation.specs.Calls.{RunsColoured, RunsBinary}
use Rattle.propagation.proofs.Meaning.{halted}
use Rattle.propagation.proofs.Unique.{ran_alike}
use Rattle.device.specs.Halting.{HaltedAt}
use Rattle.replies.specs.Replies.{Told, tell_count_of, tell_clues_of, tell_run}
use Rattle.replies.specs.declared.count.CountReply.{CountReply}
use Rattle.replies.specs.declared.clues.CluesReply.{CluesReply}
use Rattle.replies.specs.declared.runs.RunReply.{RunReply}
use Rattle.device.proofs.Unique.{told_one}

-- ---- two calls that differ only in what the memory lent to them holds answer alike

module _ {memo memo₂ : List ℕ} (e : length memo ≡ length memo₂) {out m x m₂ x₂ : List ℕ} {a b : ℕ} where
  -- sp_solve_line
  pub line_free : (cells : List ℕ) (blocks : Lent) → SolvesLine cells blocks memo out a m x → SolvesLine cells blocks memo₂ out b m₂ x₂
      → (a ≡ b) × (x ≡ x₂)
  line_free cells blocks p q = solves_alike (rw e at p) q

  -- sp_solve_binary_line
  pub binary_line_free : (cells sizes : List ℕ) → SolvesBinaryLine cells sizes memo out a m x → SolvesBinaryLine cells sizes memo₂ out b m₂ x₂
      → (a ≡ b) × (x ≡ x₂)
  binary_line_free cells sizes p q = solves_alike (rw e at p) q

module _ (w h : ℕ) (s : Start) (c : Card) (grid report memo stack memo₂ stack₂ : List ℕ) (e : length memo ≡ length memo₂)
    (f : length stack ≡ length stack₂) {g x m k g₂ x₂ m₂ k₂ : List ℕ} {a b : RunReply} where
  -- sp_run, sp_run_point
  pub run_free : Told tell_run (λ t. RunsColoured w h s c grid report memo stack t g x m k) a
      → Told tell_run (λ t. RunsColoured w h s c grid report memo₂ stack₂ t g₂ x₂ m₂ k₂) b → (a ≡ b) × (g ≡ g₂) × (x ≡ x₂)
  run_free p q = let k = ran_alike (rw (e, f) at p.says) q.says in (told_one p q k.0, k.1, k.2)

  -- sp_run_binary, sp_run_binary_point
  pub binary_run_free : Told tell_run (λ t. RunsBinary w h s c grid report memo stack t g x m k) a
      → Told tell_run (λ t. RunsBinary w h s c grid report memo₂ stack₂ t g₂ x₂ m₂ k₂) b → (a ≡ b) × (g ≡ g₂) × (x ≡ x₂)
  binary_run_free p q = let k = ran_alike (rw (e, f) at p.says) q.says in (told_one p q k.0, k.1, k.2)

-- ---- what the number 8 says of a run

module _ {w h : ℕ} {s : Start} {c : Card} {b₀ b report : List ℕ} {t : Reply} {r : RunReply} (e : r ≡ tell_run t) where
  halted_at : Halted w h s c b₀ t b report → HaltedAt w h s c b₀ r b report
  halted_at v = record {
    line = v.line;
    kind = rw (e, v.names);
    index = rw (e, v.names);
    on = v.on;
    never = v.never;
    before = rw e v.before;
  }

module _ {w h : ℕ} {s : Start} {c : Card} {grid report memo stack g x m k : List ℕ} {r : RunReply} where
  -- sp_run, sp_run_point
  pub run_halted : Told tell_run (λ t. RunsColoured w h s c grid report memo stack t g x m k) r → r.number ≡ 8 → HaltedAt w h s c grid r g x
  run_halted p n = halted_at p.tells (halted (coloured p.says) (sym (ap (λ u. u.number) p.tells) ∙ n))

  -- sp_run_binary, sp_run_binary_point, whose boards are read as sets
  pub binary_run_halted : Told tell_run (λ t. RunsBinary w h s c grid report memo stack t g x m k) r → r.number ≡ 8
      → HaltedAt w h s c (map set_by grid) r (map set_by g) x
  binary_run_halted p n = halted_at p.tells (halted (binary p.says) (sym (ap (λ u. u.number) p.tells) ∙ n))

-- ---- binary clues: whatever the codes and the blank code e, with enough room the number is 0, and the line or picture as read agrees with the
-- clues that the call left

-- sp_binary_clue
pub line_own_clue : (e : ℕ) (l : List ℕ) {sizes sizes' : List ℕ} {x : CountReply} → 0 < length l → length l ≤ 64 → length l ≤ length sizes
    → Told tell_count_of (λ r. BinaryClue e l sizes r sizes') x
    → (x.number ≡ 0) × Placement (map black (take x.count sizes')) (length l) (black_white e l)
line_own_clue e l {sizes' = sizes'} {x = x} a b s c =
    let o = own_clue e l a b s c.says in
    let t : x ≡ tell_count_of (Ok o.count) = c.tells ∙ ap tell_count_of o.done in
    (ap (λ k. k.number) t, rw t o.placed)

-- sp_binary_clues: every row and every column
pub picture_own_clues : (e w h : ℕ) (b : List ℕ) {rc rs cc cs rc' rs' cc' cs' : List ℕ} {x : CluesReply} → GoodSides w h
    → Fitted w h (length b) (length rc) (length rs) (length cc) (length cs)
    → Told tell_clues_of (λ r. BinaryClues e w h b rc rs cc cs r rc' rs' cc' cs') x
    → (x.number ≡ 0) × Picture (Straight w h (clue_of (black_card_in w h x.rows x.columns rc' rs' cc' cs'))) w h (black_white e b)
picture_own_clues e w h b {x = x} g f c =
    let o = own_clues e w h b g f c.says in
    let t : x ≡ tell_clues_of (Ok (totals o.rows o.columns)) = c.tells ∙ ap tell_clues_of o.done in
    (ap (λ k. k.number) t, rw t o.picture)
