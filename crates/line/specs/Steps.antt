-- What the private functions ask and tell. A reader of the public calls needs none of it.
use Rattle.std.specs.Prelude.{◌≡◌, Bool, true, false, List, ℕ, ◌≤◌, length}
use Rattle.std.proofs.Math.Option.{Option}
use Rattle.rules.specs.Block.{Lent, illegal}
use Rattle.rules.specs.Refusal.{memo_size}
use Rattle.solver.specs.Steps.{outcome}

-- what a caller who has judged the line knows of it
pub record JudgedLine (cells : List ℕ) (b : Lent) (memo out : List ℕ) : Type 0 where
  pub some : 1 ≤ length cells
  pub short : length cells ≤ 64
  pub paired : b.paired ≡ true
  pub few : length b.list ≤ 64
  pub legal : illegal b.list ≡ false
  pub room : memo_size ≤ length memo
  pub exact : length out ≡ length cells

-- r and the output tell the line's answer; the output is as it stood where there is none
pub record Works (answer : Option (List ℕ)) (out : List ℕ) (r : Bool) (out' : List ℕ) : Type 0 where
  pub tells : answer ≡ outcome r out'
  pub stays : r ≡ false → out' ≡ out
