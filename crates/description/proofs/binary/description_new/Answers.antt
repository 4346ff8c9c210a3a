-- `binary::description_new` meets its contract: the rules, and then the pass.
use mathlib.Core.Path.{sym}
use Rattle.rules.specs.Block.{binary}
use Rattle.description.proofs.Told.{described_done}
use Rattle.description.proofs.binary.description_new.Goals as goal

pub returns : goal.returns
returns c =
    described_done (binary c.args.blocks.now.sizes.now) c.args.out_sizes.now
    (sym (rw c.count-count.ensures at c.in_ok-judge_count.ensures)) c.retain.ensures.sizes
