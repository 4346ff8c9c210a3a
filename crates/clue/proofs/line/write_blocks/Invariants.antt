-- `line::write_blocks` meets its contract: what is left to write gives the whole.
use Prim.Native.Nat.{◌≤◌, ◌+◌}
use lib.ListN.{length}
use Rattle.clue.specs.Steps.{fields, clue_in}
use Rattle.loops.proofs.Going.{Going}
use Rattle.std.specs.Slice.Iter.{chunk_by_rest}
use Rattle.clue.proofs.line.write_blocks.Given as goal

abbrev pub invariant-loop-run : goal.invariant-loop-run
invariant-loop-run l =
    (goal.iterator-loop-run).can_next l.run-iterator ×
    (l.count + length (chunk_by_rest l.run-iterator) ≤ l.at + length l.line) ×
    Going l.initial.out l.at (fields l.field (clue_in l.fn.reading l.line)) l.out l.count
    (fields l.field (clue_in l.fn.reading (chunk_by_rest l.run-iterator)))
