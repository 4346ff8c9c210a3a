-- `judge::any_empty` meets its contract: a black block is not legal exactly if it is empty.
use mathlib.Core.Path.{◌∙◌}
use Rattle.rules.proofs.Blocks.{black_any}
use Rattle.rules.proofs.judge.any_empty.Goals as goal

pub returns : goal.returns
returns c = c.contains.ensures.value ∙ black_any c.args.sizes.now
