-- A reply tells its answer, so that at most one answer, with one content of each list, satisfies the statement of a call that writes lists.
use Rattle.std.specs.Prelude.{Err, Ok, Result}
use Rattle.rules.specs.Refusal.{refusal_number_of, Rule, verdict, reply, list_reply, written, Writes, WritesBlocks, Verdict}
use mathlib.Core.Path.{◌≡◌, refl, sym, ap, ◌∙◌}
use mathlib.Core.List.{List, [], ◌∷◌}
use Prim.Native.Nat.{ℕ}
use native.Mathlib.Omega.{arith}
use lib.ListN.{length, get_or}
use Rattle.rules.specs.Block.{Block, sizes_by, colours_by}
use Rattle.rules.specs.declared.Refusal.{Refusal}
use Rattle.rules.specs.declared.Refusal.TheVariants.{BadLength, BadRoom, TooManyBlocks, BadBlock, BadCell, OutsideGrid, ShortReport, BadCode, NoSpace, BadText}

-- the refusal of a number
abbrev by_number : ℕ → Refusal
by_number n =
    get_or
    (BadLength ∷ BadLength ∷ BadRoom ∷ TooManyBlocks ∷ BadBlock ∷ BadCell ∷ OutsideGrid ∷ ShortReport ∷ BadLength ∷ BadCode ∷ NoSpace ∷ BadText ∷ [])
    n BadLength

number_back : (w : Refusal) → by_number (refusal_number_of w) ≡ w
number_back BadLength = refl
number_back BadRoom = refl
number_back TooManyBlocks = refl
number_back BadBlock = refl
number_back BadCell = refl
number_back OutsideGrid = refl
number_back ShortReport = refl
number_back BadCode = refl
number_back NoSpace = refl
number_back BadText = refl

pub number_one : (w u : Refusal) → refusal_number_of w ≡ refusal_number_of u → w ≡ u
number_one w u e = sym (number_back w) ∙ ap by_number e ∙ number_back u

-- no refusal by checking has the number 0 or 8
pub by_checking : (w : Refusal) → (refusal_number_of w ≡ 0 → ⊥) × (refusal_number_of w ≡ 8 → ⊥)
by_checking BadLength = (λ e. omega arith, λ e. omega arith)
by_checking BadRoom = (λ e. omega arith, λ e. omega arith)
by_checking TooManyBlocks = (λ e. omega arith, λ e. omega arith)
by_checking BadBlock = (λ e. omega arith, λ e. omega arith)
by_checking BadCell = (λ e. omega arith, λ e. omega arith)
by_checking OutsideGrid = (λ e. omega arith, λ e. omega arith)
by_checking ShortReport = (λ e. omega arith, λ e. omega arith)
by_checking BadCode = (λ e. omega arith, λ e. omega arith)
by_checking NoSpace = (λ e. omega arith, λ e. omega arith)
by_checking BadText = (λ e. omega arith, λ e. omega arith)

pub head_one : {a b : ℕ} {l m : List ℕ} → a ∷ l ≡ b ∷ m → a ≡ b
head_one e = cc

pub list_reply_one : (r s : Result ℕ Refusal) → list_reply r ≡ list_reply s → r ≡ s
list_reply_one (Ok m) (Ok n) e = cc
list_reply_one (Ok m) (Err u) e = let h = ap length e in absurd (omega arith)
list_reply_one (Err w) (Ok n) e = let h = ap length e in absurd (omega arith)
list_reply_one (Err w) (Err u) e = ap (λ x. Err x) (number_one w u (head_one e))

-- a call that counted its entries was refused by no rule
pub done_count : (v : Verdict) {n m : ℕ} → list_reply (Ok n) ≡ reply v (m ∷ []) → (v ≡ Ok tt) × (n ≡ m)
done_count (Ok _) e = (refl, cc)
done_count (Err w) e = let h = ap length e in absurd (omega arith)

-- ---- one answer

-- two things that equal a third
pub same : {A : Type 0} {a b d : A} → a ≡ d → b ≡ d → a ≡ b
same p q = p ∙ sym q

pub one_list : {rules : List Rule} {vs out a b : List ℕ} {r s : Result ℕ Refusal} → Writes rules vs out r a → Writes rules vs out s b → (r ≡ s) × (a ≡ b)
one_list {r = r} {s = s} x y = (list_reply_one r s (same x.answers y.answers), same x.leaves y.leaves)

pub two_lists : {rules : List Rule} {bs : List Block} {o p a b d e : List ℕ} {r s : Result ℕ Refusal} → WritesBlocks rules bs o p r a d
    → WritesBlocks rules bs o p s b e
    → (r ≡ s) × (a ≡ b) × (d ≡ e)
two_lists {r = r} {s = s} x y =
    (list_reply_one r s (same x.answers y.answers), same x.size_list y.size_list, same x.colour_list y.colour_list)

-- ---- the statement, from the verdict and from what was written

pub writes_refused : {rules : List Rule} {w : Refusal} {vs out : List ℕ} → verdict rules ≡ Err w → Writes rules vs out (Err w) out
writes_refused e = record { answers = rw e; leaves = rw e }

pub writes_done : {rules : List Rule} {vs out out' : List ℕ} {n : ℕ} → verdict rules ≡ Ok tt → n ≡ length vs → out' ≡ written vs out
    → Writes rules vs out (Ok n) out'
writes_done e l q = record { answers = rw (e, l); leaves = rw e q }

pub blocks_refused : {rules : List Rule} {w : Refusal} {bs : List Block} {s c : List ℕ} → verdict rules ≡ Err w
    → WritesBlocks rules bs s c (Err w) s c
blocks_refused e = record { answers = rw e; size_list = rw e; colour_list = rw e }

pub blocks_done : {rules : List Rule} {bs : List Block} {s c s' c' : List ℕ} {n : ℕ} → verdict rules ≡ Ok tt → n ≡ length bs
    → s' ≡ written (sizes_by bs) s → c' ≡ written (colours_by bs) c → WritesBlocks rules bs s c (Ok n) s' c'
blocks_done e l p q = record { answers = rw (e, l); size_list = rw e p; colour_list = rw e q }
