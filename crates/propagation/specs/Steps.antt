-- What the trait and the private functions say of a card's cells, of either kind.
use Rattle.std.specs.Prelude.{◌≡◌, List, [], ◌++◌, map, ℕ, length, Result}
use Rattle.std.proofs.lemmas.List.Edits.{sets}
use Rattle.rules.specs.Binary.{set_by, cell_of}
use Rattle.rules.specs.Card.{Card}
use Rattle.rules.specs.CardRules.{card_rules}
use Rattle.rules.specs.Refusal.{Rule, cell_rules}
use Rattle.rules.specs.Run.{room, Outcome, board_of, report_of}
use Rattle.run.specs.Ends.{reply_by, reply_to}
use Rattle.run.specs.declared.Start.{Start}
use Rattle.run.specs.declared.Progress.{Progress}
use Rattle.run.specs.declared.RunError.{RunError}
use Rattle.propagation.specs.Calls.{end_rules, Cells, set_cells, binary_cells}

-- a cell as a set
abbrev pub set_in : Cells → ℕ → ℕ
set_in set_cells n = n
set_in binary_cells n = set_by n

-- the board of sets of a grid
abbrev pub sets_in : Cells → List ℕ → List ℕ
sets_in set_cells grid = grid
sets_in binary_cells grid = map set_by grid

-- the grid of a board of sets
abbrev pub grid_in : Cells → List ℕ → List ℕ
grid_in set_cells b = b
grid_in binary_cells b = map cell_of b

-- rule 5
abbrev pub rules_in : Cells → List ℕ → List Rule
rules_in set_cells grid = []
rules_in binary_cells grid = cell_rules grid

-- all rules: `run_rules` or `binary_run_rules`
abbrev pub all_rules : Cells → ℕ → ℕ → Start → Card → List ℕ → ℕ → ℕ → ℕ → List Rule
all_rules k w h s c grid report memo stack =
    card_rules w h (length grid) c memo stack ++ (rules_in k grid ++ end_rules w h s report (room (sets_in k grid)))

-- the answer, the grid and the report at a run's end
pub record EndedIn (k : Cells) (o : Outcome) (r : Result Progress RunError) (grid' report report' : List ℕ) : Type 0 where
  pub tells : reply_by r ≡ reply_to o
  pub board : grid' ≡ grid_in k (board_of o)
  pub reports : report' ≡ sets report 0 (report_of o)
