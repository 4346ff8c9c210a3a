-- What each public call of this crate promises, coloured and binary alike: b is `coloured sizes colours` or `binary sizes`. 2, 3, 4.
use Rattle.std.specs.Prelude.{List, ℕ, Result}
use Rattle.rules.specs.Block.{Lent}
use Rattle.rules.specs.Packing.{starts_from, sums_from}
use Rattle.rules.specs.Refusal.{roomy, block_rules, Writes}
use Rattle.rules.specs.declared.Refusal.{Refusal}

-- the ends of the blocks in the leftmost packing
abbrev pub PartialSums : Lent → List ℕ → Result ℕ Refusal → List ℕ → Type 0
PartialSums b out = Writes (block_rules b (roomy b out)) (sums_from 0 b.list) out

-- their first cells
abbrev pub BlockStarts : Lent → List ℕ → Result ℕ Refusal → List ℕ → Type 0
BlockStarts b out = Writes (block_rules b (roomy b out)) (starts_from 0 b.list) out
