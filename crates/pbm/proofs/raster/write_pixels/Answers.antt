-- `raster::write_pixels` meets its contract: the cells that are left give the whole.
use Rattle.std.proofs.Common.{rules}
use Rattle.loops.proofs.Going.{going_put, going_done, put_written}
use Rattle.pbm.proofs.Pixels.{cell_comes, no_cell}
use Rattle.rules.specs.Pbm.{code_of, pixels}
use lib.ListN.{length}
use mathlib.Core.List.{◌∷◌}
use mathlib.Core.Path.{◌≡◌, sym, ap, ◌∙◌}
use native.Mathlib.Omega.{arith}
use Rattle.pbm.proofs.raster.write_pixels.Goals as goal
use Rattle.pbm.proofs.raster.write_pixels.Goals.{In-Some, After-code_of}

-- the cell that comes is the first of those that are left
cell : (c : In-Some)
    → pixels c.loop-i.i-iterator.iter.iter.rest.now ≡ code_of c.in-Some.field-0-1.now ∷ pixels c.next.new.self.iter.iter.rest.now
cell c = cell_comes _ (λ x b p q k. search rules) c.loop-i.i-iterator.iter c.next.new.self.iter c.in-Some.field-0-1 c.in-Some.ensures.steps.0

pub bounds-codes-i : goal.bounds-codes-i
bounds-codes-i c =
    omega
    (arith, c.in-Some.ensures.steps.1, c.loop-i.invariant.count, c.loop-i.invariant.long, c.requires, ap length (cell (goal.at.bounds-codes-i c).In-Some))

pub loop-i-preserved : goal.loop-i-preserved
loop-i-preserved c =
    rw (c.in-Some.ensures.steps.1, c.in-Some.ensures.steps.2)
    (going_put c.loop-i.invariant (cell (goal.at.loop-i-preserved c).In-Some ∙ ap (λ n. n ∷ pixels c.next.new.self.iter.iter.rest.now) (sym c.code_of.ensures)))

pub returns : goal.returns
returns c =
    put_written (going_done c.loop-i.invariant (no_cell _ (λ x b p q k. search rules) c.loop-i.i-iterator.iter c.next.new.self.iter c.in-None.ensures.steps.0)) c.requires
