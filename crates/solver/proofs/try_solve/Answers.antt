-- `try_solve` meets its contract: the line is held, and the solver's answer is the paper's.
use mathlib.Core.Path.{◌≡◌, ap}
use native.Mathlib.Omega.{arith}
use Prim.Native.Nat.{ℕ, ◌+◌, ◌-◌}
use lib.ListN.{length, length-replicate}
use Rattle.solver.proofs.Whole.{summable, over_told, asked, solver_told}
use Rattle.solver.proofs.try_solve.Goals as goal

pub calc_block_sum-requires : goal.calc_block_sum-requires
calc_block_sum-requires g c =
    summable c.requires c.hold_blocks.ensures

pub returns-then-not-calc_block_sum : goal.returns-then-not-calc_block_sum
returns-then-not-calc_block_sum g c =
    over_told c.requires c.hold_blocks.ensures c.calc_block_sum.ensures.kept (c.calc_block_sum.ensures.over c.if-not-calc_block_sum.true)
    (omega (arith, ap length c.requires.clean, length-replicate {A = ℕ} 64 0))

pub clear-requires : goal.clear-requires
clear-requires g c = omega (arith, c.requires.fits.few, c.requires.room)

pub fill_matrix-requires : goal.fill_matrix-requires
fill_matrix-requires g c =
    let e : c.args.length - 1 + 1 ≡ c.args.length = omega (arith, c.requires.some) in
    asked c.requires c.hold_blocks.ensures c.calc_block_sum.ensures.kept (c.calc_block_sum.ensures.sums c.if-not-calc_block_sum.false) e c.count-count.ensures c.clear.auto.memo c.clear.ensures

pub returns : goal.returns
returns g c =
    let e : c.args.length - 1 + 1 ≡ c.args.length = omega (arith, c.requires.some) in
    solver_told c.requires c.hold_blocks.ensures c.calc_block_sum.ensures.kept e c.count-count.ensures c.fill_matrix.result c.fill_matrix.ensures
