-- What each public call of this crate promises: b is `coloured sizes colours` or `binary sizes`. 2, 3.
use Rattle.std.specs.Prelude.{Bool, ◌&&◌, List, ℕ, length, Result}
use Rattle.rules.specs.Block.{Lent, sizes_by}
use Rattle.rules.specs.Clue.{coloured_default, binary_default, described}
use Rattle.rules.specs.Refusal.{Rule, count_rules, roomy, Writes, WritesBlocks}
use Rattle.rules.specs.declared.Refusal.{Refusal}

-- the blocks themselves may be anything
abbrev pub description_rules : Lent → Bool → List Rule
description_rules b fits = count_rules b.paired (length b.list) fits

-- the blocks that are not the default, in order
abbrev pub ColouredDescription : Lent → List ℕ → List ℕ → Result ℕ Refusal → List ℕ → List ℕ → Type 0
ColouredDescription b sizes colours =
    WritesBlocks (description_rules b (roomy b sizes && roomy b colours)) (described coloured_default b.list) sizes colours

abbrev pub BinaryDescription : Lent → List ℕ → Result ℕ Refusal → List ℕ → Type 0
BinaryDescription b sizes = Writes (description_rules b (roomy b sizes)) (sizes_by (described binary_default b.list)) sizes
