use Rattle.std.proofs.Common.{◌-◌, ◌≤◌, length}
use Rattle.scan.proofs.texts.read_text.Given as goal

abbrev pub invariant-loop-length : goal.invariant-loop-length
invariant-loop-length g l = l.length ≤ length l.text

abbrev pub decreases-loop-length : goal.decreases-loop-length
decreases-loop-length g l = length l.text - l.length
