-- From call to call: a picture's clues, as the call for clues left them, are lent to a full run on any start that holds the picture. The run
-- answers 0, and its end holds the picture.
use Rattle.std.specs.Prelude.{Result, Ok}
use mathlib.Core.Path.{◌≡◌, refl, sym, ap, ◌∙◌}
use mathlib.Core.List.{List, map}
use Prim.Native.Nat.{ℕ, ◌*◌, ◌≤◌}
use native.Mathlib.Omega.{arith}
use lib.ListN.{length, get_or, length-map}
use Rattle.rules.specs.Answer.{Within}
use Rattle.rules.specs.Binary.{set_by}
use Rattle.rules.specs.Board.{Picture}
use Rattle.rules.specs.Card.{Card}
use Rattle.rules.specs.Clue.{read_code, black_white}
use Rattle.rules.specs.Refusal.{memo_size, stack_size}
use Rattle.rules.specs.Run.{room}
use Rattle.rules.proofs.Searching.{none_above}
use Rattle.picture.specs.Calls.{BinaryClues, ColouredClues, card_in, black_card_in}
use Rattle.rules.specs.declared.Refusal.{Refusal}
use Rattle.picture.specs.declared.Totals.{Totals}
use Rattle.picture.proofs.Pictures.{picture_of_clues, clues_lent, picture_of_binary_clues, binary_clues_lent}
use Rattle.run.specs.Ends.{Reply}
use Rattle.run.specs.declared.Start.TheVariants.{Full}
use Rattle.propagation.specs.Answered.{Answered, coloured, binary, Passed, Placed}
use Rattle.propagation.specs.Calls.{RunsColoured, RunsBinary, set_cells, binary_cells}
use Rattle.propagation.proofs.Meaning.{fine_passed, picture_done, picture_kept}
use Rattle.propagation.proofs.Told.{full_fine}
use Rattle.replies.specs.Replies.{Told, tell_clues_of, tell_run}
use Rattle.device.proofs.Zero.{told_zero}
use Rattle.replies.specs.declared.clues.CluesReply.{CluesReply}
use Rattle.replies.specs.declared.runs.RunReply.{RunReply}

-- with 0 the statement holds of the answer that has the struct's counts
clues_done : {Says : Result Totals Refusal → Type 0} {x : CluesReply} → Told tell_clues_of Says x → x.number ≡ 0
    → Says (Ok (record { rows = x.rows; columns = x.columns }))
clues_done a z = let t = told_zero (λ k. k.number) (λ w. refl) a z in rw t.1 t.2

-- a start that holds a picture has its size
start_size : {w h : ℕ} (c : Card) {m : List ℕ} → Picture (Placed w h c) w h m → {b₀ : List ℕ} → Within m b₀ → length b₀ ≡ w * h
start_size c q u = omega (arith, q.size, u.long)

module _ {w h : ℕ} {c : Card} {m : List ℕ} (q : Picture (Placed w h c) w h m) {b₀ : List ℕ} (u : Within m b₀) where
  -- a run that passed the checks is done, and keeps the picture
  run_keeps : {r₀ : List ℕ} {t : Reply} {b r : List ℕ} {y : RunReply} → Answered w h Full c b₀ r₀ t b r → Passed t → y ≡ tell_run t
      → (y.number ≡ 0) × Within m b
  run_keeps a p e = (ap (λ k. k.number) e ∙ picture_done a p q u, picture_kept a p q u)

-- ---- coloured: `sp_clues`, then `sp_run`

module _ {e w h : ℕ} {codes rc rs rt cc cs ct rc' rs' rt' cc' cs' ct' : List ℕ} {x : CluesReply}
    (a : Told tell_clues_of (λ r. ColouredClues e w h codes rc rs rt cc cs ct r rc' rs' rt' cc' cs' ct') x) (z : x.number ≡ 0) where
  -- the card in the lists as the call left them
  abbrev lent : Card
  lent = card_in w h x.rows x.columns rc' rs' rt' cc' cs' ct'

  -- with a report of at least the room number's entries and enough memory the run answers 0 and keeps the picture as read
  pub clues_then_run : {grid report memo stack grid' report' memo' stack' : List ℕ} {y : RunReply}
      → Told tell_run (λ t. RunsColoured w h Full lent grid report memo stack t grid' report' memo' stack') y → Within (map (read_code e) codes) grid
      → room grid ≤ length report → memo_size ≤ length memo → stack_size ≤ length stack
      → (y.number ≡ 0) × Within (map (read_code e) codes) grid'
  clues_then_run {grid} {report} {memo} {stack} b u r m s =
      let c = clues_done a z in
      let q = picture_of_clues c in
      let k = clues_lent c (length grid) (length memo) (length stack) (start_size _ q u) m s in
      let v = full_fine set_cells w h lent grid (length report) (length memo) (length stack) k refl r in
      run_keeps q u (coloured b.says) (fine_passed b.says v) b.tells

-- ---- binary: `sp_binary_clues`, then `sp_run_binary`

module _ (e w h : ℕ) (codes : List ℕ) {rc rs cc cs rc' rs' cc' cs' : List ℕ} {x : CluesReply}
    (a : Told tell_clues_of (λ r. BinaryClues e w h codes rc rs cc cs r rc' rs' cc' cs') x) (z : x.number ≡ 0) where
  -- the card in the lists as the call left them
  abbrev black_lent : Card
  black_lent = black_card_in w h x.rows x.columns rc' rs' cc' cs'

  -- the same on cells of at most 2, which are read as sets
  pub binary_clues_then_run : {grid report memo stack grid' report' memo' stack' : List ℕ} {y : RunReply}
      → Told tell_run (λ t. RunsBinary w h Full black_lent grid report memo stack t grid' report' memo' stack') y → ((i : ℕ) → get_or grid i 0 ≤ 2)
      → Within (black_white e codes) (map set_by grid)
      → room (map set_by grid) ≤ length report → memo_size ≤ length memo → stack_size ≤ length stack
      → (y.number ≡ 0) × Within (black_white e codes) (map set_by grid')
  binary_clues_then_run {grid} {report} {memo} {stack} b low u r m s =
      let c = clues_done a z in
      let q = picture_of_binary_clues e w h x.rows x.columns codes c in
      let size = sym (length-map grid set_by) ∙ start_size _ q u in
      let k = binary_clues_lent e w h x.rows x.columns codes c (length grid) (length memo) (length stack) size m s in
      let v = full_fine binary_cells w h black_lent grid (length report) (length memo) (length stack) k (rw (none_above 2 grid (λ i o. low i))) r in
      run_keeps q u (binary b.says) (fine_passed b.says v) b.tells
