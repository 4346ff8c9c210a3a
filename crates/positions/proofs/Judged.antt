-- What a verdict on a line's blocks tells.
use Rattle.std.specs.Prelude.{Err, Ok}
use Rattle.rules.specs.Refusal.{◌when◌, verdict, length_rules, block_rules, space_rules, Verdict}
use mathlib.Core.Path.{◌≡◌, refl}
use mathlib.Core.Bool.{Bool}
use mathlib.Core.List.{[], ◌++◌}
use Prim.Native.Nat.{ℕ, ◌≤◌}
use native.Mathlib.Omega.{arith}
use borrow.Author.Tests.{ltb-false}
use lib.Dec.{ltb}
use Rattle.rules.specs.Block.{Lent}
use Rattle.rules.specs.Packing.{minimal_space}
use Rattle.rules.specs.declared.Refusal.{Refusal}
use Rattle.rules.specs.declared.Refusal.TheVariants.{NoSpace}
use Rattle.rules.proofs.Verdicts.{fine_cons, append_parts, length_fine, blocks_fine, Blocked}
use Rattle.positions.specs.Calls.{range_rules}
use Rattle.positions.specs.Steps.{space_of}

-- ---- the space that is left

pub slack_is : (v : Verdict) (n k : ℕ) → space_of v n ≡ Ok k → (v ≡ Ok tt) × (k ≡ n)
slack_is (Ok _) n k e = (refl, cc)
slack_is (Err w) n k e = let z : ◌≡◌ {A = ℕ} 0 1 = cc in absurd (omega arith)

pub tight_is : (v : Verdict) (n : ℕ) {w : Refusal} → space_of v n ≡ Err w → v ≡ Err w
tight_is (Ok _) n e = let z : ◌≡◌ {A = ℕ} 0 1 = cc in absurd (omega arith)
tight_is (Err u) n e = cc

-- ---- the rules of positions and ranges, one group after the other

module _ (n : ℕ) (b : Lent) (t : Bool) where
  -- what is known where none is broken
  pub record InRange : Type 0 where
    pub short : n ≤ 64
    pub blocked : Blocked b t
    pub fits : minimal_space b.list ≤ n

  pub range_fine : verdict (range_rules n b t) ≡ Ok tt → InRange
  range_fine e =
      let p = append_parts (length_rules n) (block_rules b t ++ space_rules n b) e in
      let q = append_parts (block_rules b t) (space_rules n b) p.1 in
      record {
        short = (length_fine n p.0).1;
        blocked = blocks_fine b t q.0;
        fits = ltb-false n (minimal_space b.list) (fine_cons (NoSpace when ltb n (minimal_space b.list)) [] q.1).0;
      }
