-- `numbers::read_digits` meets its contract: what is left gives the whole.
use Rattle.pbm.proofs.Reading.{Reading}
use Rattle.rules.specs.Pbm.{digits}
use lib.ListN.{length}
use Rattle.pbm.proofs.numbers.read_digits.Given as goal

abbrev pub invariant-loop-byte : goal.invariant-loop-byte
invariant-loop-byte l = Reading (digits 0 l.text) l.value l.rest

abbrev pub decreases-loop-byte : goal.decreases-loop-byte
decreases-loop-byte l = length l.rest
