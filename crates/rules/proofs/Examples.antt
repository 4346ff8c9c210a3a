-- The worked runs of document 01, the codes of request #102 and the size of the memo, computed.
use mathlib.Core.Path.{◌≡◌, refl}
use mathlib.Core.List.{List, [], ◌∷◌}
use mathlib.Core.Option.{Option}
use Prim.Native.Nat.{ℕ, ◌*◌}
use lib.Count.{ones}
use lib.ListN.{get_or}
use Rattle.rules.specs.Block.{Block, black}
use Rattle.rules.specs.Placement.{placements}
use Rattle.rules.specs.Answer.{answer}
use Rattle.rules.specs.Clue.{black_clue}
use Rattle.rules.specs.Refusal.{memo_size}
use Rattle.rules.specs.declared.LinePosition.{LinePosition}
use Rattle.rules.specs.declared.LinePosition.TheVariants.{Row, Column}
use Rattle.rules.specs.Board.{row, column, len, line_of, store}
use Rattle.rules.specs.Run.{done, refused, run, full_stack, full_run}

order_3 : full_stack 3 3 ≡ row 2 ∷ row 0 ∷ column 2 ∷ column 0 ∷ row 1 ∷ column 1 ∷ []
unfolding full_stack
order_3 = refl

-- width 2, height 1: columns 1 and none, and a row
example_clue : List Block → LinePosition → List Block
example_clue r (Row y) = r
example_clue r (Column x) = get_or ((black 1 ∷ []) ∷ []) x.0 []

solve_with : List Block → LinePosition → List ℕ → Option (List ℕ)
solve_with r l c = answer (placements (example_clue r l) (len 2 1 l)) c

run_1 : full_run 2 1 (solve_with (black 1 ∷ [])) (3 ∷ 3 ∷ []) ≡ done (2 ∷ 1 ∷ []) (0 ∷ 1 ∷ []) 3
unfolding full_run full_stack run solve_with example_clue line_of store ones
run_1 = refl

run_2 : full_run 2 1 (solve_with []) (3 ∷ 3 ∷ []) ≡ refused (row 0) (2 ∷ 3 ∷ []) (0 ∷ []) 1
unfolding full_run full_stack run solve_with example_clue line_of store ones
run_2 = refl

-- request #102: with blank 1, codes 2,3 give one block of 2
two_inks : black_clue 1 (2 ∷ 3 ∷ []) ≡ black 2 ∷ []
two_inks = refl

-- a row of 64 bytes for each number of blocks, from none to 64
memo_size_lem : memo_size ≡ 65 * 64
memo_size_lem = refl
