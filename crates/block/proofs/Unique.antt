-- At most one answer satisfies each public call's statement: two answers to one input are equal, and so is every list at exit.
use Rattle.std.specs.Prelude.{Result}
use mathlib.Core.Path.{◌≡◌}
use mathlib.Core.List.{List}
use Prim.Native.Nat.{ℕ}
use Rattle.rules.specs.Block.{Lent}
use Rattle.rules.proofs.Replies.{one_list}
use Rattle.rules.specs.declared.Refusal.{Refusal}
use Rattle.block.specs.Calls.{PartialSums, BlockStarts}

-- b is `coloured sizes colours` or `binary sizes`

pub partial_sums_lem : (b : Lent) {out x y : List ℕ} {r s : Result ℕ Refusal} → PartialSums b out r x → PartialSums b out s y → (r ≡ s) × (x ≡ y)
partial_sums_lem b p q = one_list p q

pub block_starts_lem : (b : Lent) {out x y : List ℕ} {r s : Result ℕ Refusal} → BlockStarts b out r x → BlockStarts b out s y → (r ≡ s) × (x ≡ y)
block_starts_lem b p q = one_list p q
