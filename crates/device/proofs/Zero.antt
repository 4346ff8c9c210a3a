-- With the number 0 the answer that a struct tells is no refusal.
use Rattle.std.specs.Prelude.{Result, Ok, Err}
use mathlib.Core.Path.{◌≡◌, sym, ap, ◌∙◌}
use Prim.Native.Nat.{ℕ}
use Rattle.rules.specs.Refusal.{refusal_number_of}
use Rattle.rules.specs.declared.Refusal.{Refusal}
use Rattle.rules.proofs.Replies.{by_checking}
use Rattle.replies.specs.Replies.{Told}

-- the statement holds of a value that the struct tells
pub told_zero : {A B : Type 0} {tell : Result A Refusal → B} {Says : Result A Refusal → Type 0} {x : B} (number : B → ℕ)
    → ((w : Refusal) → number (tell (Err w)) ≡ refusal_number_of w) → Told tell Says x → number x ≡ 0
    → (v : A) × (x ≡ tell (Ok v)) × Says (Ok v)
told_zero {A} {tell = tell} {Says} {x} number f a z = go a.answer a.says a.tells
  where
    go : (r : Result A Refusal) → Says r → x ≡ tell r → (v : A) × (x ≡ tell (Ok v)) × Says (Ok v)
    go (Ok v) s e = (v, e, s)
    go (Err w) s e = absurd ((by_checking w).0 (sym (f w) ∙ sym (ap number e) ∙ z))
