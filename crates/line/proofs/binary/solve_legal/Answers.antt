-- `binary::solve_legal` meets its contract: the solver is given the cells' sets, and what it finds is read back.
use Rattle.std.proofs.Common.{rules}
use Rattle.line.proofs.Told.{sets_ready, back_none, back_some}
use Rattle.line.proofs.binary.solve_legal.Goals as goal

pub solve_legal-requires : goal.solve_legal-requires
solve_legal-requires c = sets_ready c.args.cells.now c.args.sizes.now c.requires _ (search rules) c.copy_at.ensures c.to_sets.ensures

pub returns-then-not-solve_legal : goal.returns-then-not-solve_legal
returns-then-not-solve_legal c =
    back_none c.args.cells.now c.args.sizes.now c.requires _ (search rules) c.copy_at.ensures c.to_sets.ensures
    (rw c.if-not-solve_legal.true at c.solve_legal.ensures)

pub returns : goal.returns
returns c =
    back_some c.args.cells.now c.args.sizes.now c.requires _ (search rules) c.copy_at.ensures c.to_sets.ensures
    (rw c.if-not-solve_legal.false at c.solve_legal.ensures) c.to_cells.ensures
