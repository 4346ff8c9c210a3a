-- `rows::write_cells` meets its contract: the digits of the cells so far are added.
use Rattle.pbm.specs.Steps.{Adds}
use Rattle.rules.specs.Pbm.{digit_of}
use lib.ListN.{take}
use mathlib.Core.List.{map}
use Rattle.pbm.proofs.rows.write_cells.Given as goal

abbrev pub invariant-loop-code : goal.invariant-loop-code
invariant-loop-code l = Adds l.initial.page (map digit_of (take l.code-index l.codes)) l.page
