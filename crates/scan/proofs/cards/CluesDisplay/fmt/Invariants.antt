use Rattle.std.proofs.Common.{◌≤◌, length, drop}
use Rattle.rules.specs.Card.{sum}
use Rattle.scan.proofs.cards.CluesDisplay.fmt.Given as goal

abbrev pub invariant-loop-count : goal.invariant-loop-count
invariant-loop-count g l = sum (drop l.count-index l.count-items) ≤ length l.rest
