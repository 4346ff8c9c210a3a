-- `Stack::push_code` meets its contract.
use native.Mathlib.Numerals.{add-one}
use Rattle.stack.proofs.Coded.{stack_put}
use Rattle.stack.proofs.Stack.push_code.Goals as goal

pub returns-clause-on_top : goal.returns-clause-on_top
returns-clause-on_top c =
    rw (add-one c.args.self.now.count) (stack_put c.args.self.now.codes.now c.args.self.now.count c.args.code c.requires)
