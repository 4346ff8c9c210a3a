-- `judge::any_illegal` meets its contract: the sizes and colours beside one another are the blocks.
use mathlib.Core.Path.{◌∙◌}
use Rattle.std.proofs.Common.{rules}
use Rattle.std.proofs.lemmas.Iterator.{YieldsList-from_slice, YieldsList-from_zip}
use Rattle.std.proofs.lemmas.Iterator.Search.{any_from_yields_List}
use Rattle.rules.specs.Block.{illegal_block}
use Rattle.rules.proofs.Blocks.{paired_any}
use Rattle.rules.proofs.judge.any_illegal.Goals as goal

pub returns : goal.returns
returns c =
    any_from_yields_List (λ p. illegal_block p.0 p.1) c.any.new.self _ _ c.any.ensures.ran
    (YieldsList-from_zip (YieldsList-from_slice c.args.sizes.now cc) (YieldsList-from_slice c.args.colours.now cc)) (λ x b q k. search rules)
    ∙ paired_any c.args.sizes.now c.args.colours.now
