-- `Stack::append_changed` meets its contract: the crossing lines of the changed indexes from j on are on top.
use Rattle.stack.proofs.Pushed.{top_room}
use Rattle.stack.proofs.Stack.append_changed.Goals as goal

pub push_code-requires : goal.push_code-requires
push_code-requires c = top_room c.requires.0 c.loop-j.invariant c.loop-j-test.true c.if-before-j.true c.requires.1
