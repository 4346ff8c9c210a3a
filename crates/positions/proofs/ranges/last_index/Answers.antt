-- `ranges::last_index` meets its contract: the search from the back finds the last of the colour.
use mathlib.Core.Path.{◌∙◌}
use Rattle.std.proofs.Common.{rules}
use Rattle.positions.proofs.Ranged.{last_found}
use Rattle.positions.proofs.ranges.last_index.Goals as goal

pub returns : goal.returns
returns c = c.unwrap_or.ensures ∙ last_found c.args.colour c.args.colours.now c.rposition.result (search rules)
