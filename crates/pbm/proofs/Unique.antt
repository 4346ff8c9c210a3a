-- At most one answer satisfies each public call's statement: two answers to one input are equal, and so is every list at exit.
use Rattle.std.specs.Prelude.{Result, Ok, Err}
use mathlib.Core.Path.{◌≡◌, ap}
use mathlib.Core.List.{List}
use mathlib.Core.Option.{Option}
use Prim.Native.Nat.{ℕ}
use native.Mathlib.Omega.{arith}
use lib.ListN.{length}
use Rattle.rules.specs.Pbm.{Heading}
use Rattle.rules.proofs.Replies.{number_one, head_one, same, one_list}
use Rattle.pbm.specs.Calls.{pbm_reply, Reads, ReadsPbm, WritesPbm}
use Rattle.pbm.specs.declared.Sides.{Sides}
use Rattle.rules.specs.declared.Refusal.{Refusal}

pub pbm_reply_one : (r s : Result Sides Refusal) → pbm_reply r ≡ pbm_reply s → r ≡ s
pbm_reply_one (Ok x) (Ok y) e = let w : x.width ≡ y.width = cc in let h : x.height ≡ y.height = cc in rw (w, h)
pbm_reply_one (Ok x) (Err u) e = let n = ap length e in absurd (omega arith)
pbm_reply_one (Err w) (Ok y) e = let n = ap length e in absurd (omega arith)
pbm_reply_one (Err w) (Err u) e = ap (λ x. Err x) (number_one w u (head_one e))

reads_one : {found : Option Heading} {codes x y : List ℕ} {r s : Result Sides Refusal} → Reads found codes r x → Reads found codes s y → (r ≡ s) × (x ≡ y)
reads_one {r = r} {s = s} p q = (pbm_reply_one r s (same p.answers q.answers), same p.leaves q.leaves)

pub read_pbm_lem : (text : List ℕ) {codes x y : List ℕ} {r s : Result Sides Refusal} → ReadsPbm text codes r x → ReadsPbm text codes s y → (r ≡ s) × (x ≡ y)
read_pbm_lem text p q = reads_one p q

pub write_pbm_lem : (w h : ℕ) (b : List ℕ) {text x y : List ℕ} {r s : Result ℕ Refusal} → WritesPbm w h b text r x → WritesPbm w h b text s y → (r ≡ s) × (x ≡ y)
write_pbm_lem w h b p q = one_list p q
