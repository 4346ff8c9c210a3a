-- `all_can_be` meets its contract.
use Rattle.std.proofs.Common.{rules}
use Rattle.std.proofs.iter.runs.Sources.{ranges}
use Rattle.filling.specs.Steps.{CanShow}
use Rattle.filling.proofs.all_can_be.Goals as goal

pub returns : goal.returns
unfolding CanShow
returns c = record { yes = λ e i u v. search (rules, ranges); no = λ e h. search (rules, ranges) }
