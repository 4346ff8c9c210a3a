-- Demand 3 for straight cards: the general argument at their placements.
use mathlib.Core.Path.{◌≡◌}
use mathlib.Core.Logic.{◌≢◌}
use mathlib.Core.List.{List}
use Prim.Native.Nat.{ℕ, ◌*◌, ◌<◌}
use lib.ListN.{length}
use Rattle.rules.specs.Block.{Block, Legal}
use Rattle.rules.specs.Answer.{Answers, Proper}
use Rattle.rules.specs.declared.LinePosition.{LinePosition}
use Rattle.rules.specs.Board.{row, column, len, On, Stable}
use Rattle.rules.specs.Run.{Ends, full_run, point_run}
use Rattle.rules.specs.Card.{Straight, solve_straight}
use Rattle.rules.proofs.Placements.{placement_proper}
use Rattle.rules.proofs.Binaries.{line_right}
use Rattle.rules.proofs.Runs.{full_right, point_right}

module _ (w h : ℕ) (clue : LinePosition → List Block) (legal : (l : LinePosition) → Legal (clue l)) where
  pub straight_proper : (l : LinePosition) (p : List ℕ) → Straight w h clue l p → Proper p
  straight_proper l p d = placement_proper (legal l) p d

  pub straight_right : (l : LinePosition) (c : List ℕ) → Answers (Straight w h clue l) c (solve_straight w h clue l c)
  straight_right l c = line_right (clue l) (len w h l) c

  pub straight_full : 0 < w → 0 < h → (b : List ℕ) → length b ≡ h * w → Ends (Straight w h clue) w h b (full_run w h (solve_straight w h clue) b)
  straight_full wide high b size = full_right w h straight_proper wide high (solve_straight w h clue) straight_right b size

  pub straight_point : 0 < w → 0 < h → (x y : ℕ) (b : List ℕ) → x < w → y < h → length b ≡ h * w
      → ((l : LinePosition) → On w h l → l ≢ row y → l ≢ column x → Stable (Straight w h clue) w h b l)
      → Ends (Straight w h clue) w h b (point_run w h (solve_straight w h clue) x y b)
  straight_point wide high x y b p q size st = point_right w h straight_proper wide high (solve_straight w h clue) straight_right x y b p q size st
