-- At most one answer satisfies each public call's statement: two answers to one input are equal, and so is every list at exit.
use Rattle.std.specs.Prelude.{Result}
use Prim.Native.Nat.{ℕ}
use mathlib.Core.List.{List}
use mathlib.Core.Path.{◌≡◌}
use Rattle.clue.specs.Calls.{ColouredClue, BinaryClue}
use Rattle.rules.specs.declared.Refusal.{Refusal}
use Rattle.rules.proofs.Replies.{one_list, two_lists}

pub coloured_clue_lem : (e : ℕ) (codes : List ℕ) {sizes colours x y x' y' : List ℕ} {r s : Result ℕ Refusal}
    → ColouredClue e codes sizes colours r x y → ColouredClue e codes sizes colours s x' y' → (r ≡ s) × (x ≡ x') × (y ≡ y')
coloured_clue_lem e codes p q = two_lists p q

pub binary_clue_lem : (e : ℕ) (codes : List ℕ) {sizes x y : List ℕ} {r s : Result ℕ Refusal} → BinaryClue e codes sizes r x
    → BinaryClue e codes sizes s y → (r ≡ s) × (x ≡ y)
binary_clue_lem e codes p q = one_list p q
