-- The room number as the calls count it: the set of each cell adds its colours less one.
use Rattle.std.specs.Prelude.{sum_by}
use mathlib.Core.Path.{◌≡◌, refl, ap, ◌∙◌}
use mathlib.Core.List.{List, [], ◌∷◌}
use Prim.Native.Nat.{ℕ, ◌+◌, ◌-◌}
use lib.Count.{ones}
use Rattle.std.proofs.lemmas.List.Sums.{sum_by-cons}
use Rattle.rules.specs.Run.{room}
use Rattle.propagation.specs.Calls.{Cells, set_cells, binary_cells}
use Rattle.propagation.specs.Steps.{set_in, sets_in}

pub room_sum : (k : Cells) (grid : List ℕ) → sum_by (λ n. ones (set_in k n) - 1) grid ≡ room (sets_in k grid)
room_sum set_cells [] = refl
room_sum binary_cells [] = refl
room_sum set_cells (n ∷ grid) =
    sum_by-cons (λ m. ones (set_in set_cells m) - 1) n grid ∙ ap (λ (i : ℕ). (ones (set_in set_cells n) - 1) + i) (room_sum set_cells grid)
room_sum binary_cells (n ∷ grid) =
    sum_by-cons (λ m. ones (set_in binary_cells m) - 1) n grid
    ∙ ap (λ (i : ℕ). (ones (set_in binary_cells n) - 1) + i) (room_sum binary_cells grid)
