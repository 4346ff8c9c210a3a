use Rattle.std.proofs.Common.{◌+◌, ◌*◌}
use Rattle.filling.proofs.+fillings.Given as goal

abbrev pub decreases-fill_matrix : goal.decreases-fill_matrix
decreases-fill_matrix l = 3 * (l.position + 1) + 1

abbrev pub decreases-fill_matrix_blank : goal.decreases-fill_matrix_blank
decreases-fill_matrix_blank l = 3 * (l.position + 1)

abbrev pub decreases-fill_matrix_color : goal.decreases-fill_matrix_color
decreases-fill_matrix_color l = 3 * (l.position + 1)

abbrev pub decreases-solve_block : goal.decreases-solve_block
decreases-solve_block l = 3 * l.cells + 2
