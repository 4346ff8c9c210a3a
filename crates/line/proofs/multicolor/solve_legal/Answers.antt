-- `multicolor::solve_legal` meets its contract: the cells are held, and what the solver finds is copied.
use mathlib.Core.Path.{◌∙◌}
use Rattle.std.proofs.Common.{rules}
use Rattle.loops.proofs.Stores.{sets_whole}
use Rattle.line.proofs.Told.{line_solvable, line_told, works_none, works_some}
use Rattle.line.proofs.multicolor.solve_legal.Goals as goal

pub try_solve-requires : goal.try_solve-requires
try_solve-requires g c = line_solvable c.args.cells.now (g.B.Blocks.lent c.args.blocks.now) c.requires

pub returns-then-not-try_solve : goal.returns-then-not-try_solve
returns-then-not-try_solve g c =
    works_none
    (line_told c.args.cells.now (g.B.Blocks.lent c.args.blocks.now) c.requires (rw c.new-line.ensures.cells at c.copy_at.ensures)
    (rw c.if-not-try_solve.true at c.try_solve.ensures))

pub returns : goal.returns
returns g c =
    works_some
    (line_told c.args.cells.now (g.B.Blocks.lent c.args.blocks.now) c.requires (rw c.new-line.ensures.cells at c.copy_at.ensures)
    (rw c.if-not-try_solve.false at c.try_solve.ensures))
    (c.copy_at-2.ensures ∙ sets_whole _ _ (search rules))
