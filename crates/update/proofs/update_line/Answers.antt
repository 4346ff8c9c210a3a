-- `update_line` meets its contract.
use Rattle.update.proofs.Updating.{cut, tried, refuses, storable, moves}
use Rattle.update.proofs.update_line.Goals as goal

pub clue-requires : goal.clue-requires
clue-requires c = cut c.requires

pub solve_at-requires : goal.solve_at-requires
solve_at-requires c = tried c.requires c.clue.ensures.sizes c.clue.ensures.colours

pub returns-then-not-solve_at-clause-updated : goal.returns-then-not-solve_at-clause-updated
returns-then-not-solve_at-clause-updated c =
    refuses c.requires c.clue.ensures.sizes c.clue.ensures.colours c.if-not-solve_at.ensures.attempted

pub store_line-requires : goal.store_line-requires
store_line-requires c = storable c.requires c.clue.ensures.sizes c.clue.ensures.colours c.if-not-solve_at.ensures.attempted

pub returns-clause-updated : goal.returns-clause-updated
returns-clause-updated c =
    moves c.requires c.clue.ensures.sizes c.clue.ensures.colours c.if-not-solve_at.ensures.attempted c.store_line.ensures
