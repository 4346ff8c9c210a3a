-- `Stack::push_changed` meets its contract.
use Rattle.stack.proofs.Pushed.{pushed_pair, pushed_count, pushed, pushed_room}
use Rattle.stack.proofs.Stack.push_changed.Goals as goal

pub drop_changed-requires : goal.drop_changed-requires
drop_changed-requires c = (pushed_pair c.requires, pushed_count c.requires)

pub append_changed-requires : goal.append_changed-requires
append_changed-requires c =
    (pushed_pair c.requires, pushed_room c.requires c.drop_changed.new.self c.drop_changed.ensures.kept c.drop_changed.ensures.dropped)

pub returns-clause-pushed : goal.returns-clause-pushed
returns-clause-pushed c = pushed c.requires c.drop_changed.ensures.dropped c.append_changed.ensures.on_top
