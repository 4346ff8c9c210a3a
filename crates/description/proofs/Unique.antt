-- At most one answer satisfies each public call's statement: two answers to one input are equal, and so is every list at exit.
use Rattle.std.specs.Prelude.{Result}
use mathlib.Core.Path.{◌≡◌}
use mathlib.Core.List.{List}
use Prim.Native.Nat.{ℕ}
use Rattle.rules.specs.Block.{Lent}
use Rattle.rules.proofs.Replies.{one_list, two_lists}
use Rattle.rules.specs.declared.Refusal.{Refusal}
use Rattle.description.specs.Calls.{ColouredDescription, BinaryDescription}

-- b is `coloured sizes colours` or `binary sizes`

pub coloured_description : (b : Lent) {sizes colours x y x' y' : List ℕ} {r s : Result ℕ Refusal}
    → ColouredDescription b sizes colours r x y → ColouredDescription b sizes colours s x' y' → (r ≡ s) × (x ≡ x') × (y ≡ y')
coloured_description b p q = two_lists p q

pub binary_description : (b : Lent) {sizes x y : List ℕ} {r s : Result ℕ Refusal} → BinaryDescription b sizes r x → BinaryDescription b sizes s y
    → (r ≡ s) × (x ≡ y)
binary_description b p q = one_list p q
