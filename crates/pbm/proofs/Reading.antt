-- What the loop that reads a number keeps.
use mathlib.Core.Path.{◌≡◌}
use mathlib.Core.List.{List}
use Prim.Native.Nat.{ℕ}
use Rattle.rules.specs.Pbm.{Sized, digits}
use Rattle.pbm.specs.Steps.{held}

-- v is the value of the digits so far, held, and what is left, t, gives the whole z
pub record Reading (z : Sized) (v : ℕ) (t : List ℕ) : Type 0 where
  pub exact : ℕ
  pub value : v ≡ held exact
  pub left : digits exact t ≡ z
