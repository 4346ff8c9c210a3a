-- Lines pushed one after the other: what is left to push gives the whole.
use mathlib.Core.Path.{◌≡◌, refl, sym, ap, ◌∙◌}
use mathlib.Core.List.{List, [], ◌∷◌, ◌++◌, map, map-append, reverse_aux}
use Prim.Native.Nat.{ℕ, ◌+◌}
use native.Mathlib.Omega.{arith}
use lib.ListN.{length, length-map, length-reverse_aux}
use Rattle.rules.specs.declared.LinePosition.{LinePosition}
use Rattle.stack.specs.declared.Stack.{Stack}
use Rattle.stack.specs.Stack.{line_of_code, lines_on, Kept}
use Rattle.stack.specs.Steps.{Piled}
use Rattle.stack.proofs.Coded.{length_stack}

pub kept_then : {r s t : Stack} → Kept r s → Kept s t → Kept r t
kept_then p q = record { same = q.same ∙ p.same; long = q.long ∙ p.long }

pub count_on : (s : Stack) → length (lines_on s) ≡ s.count
count_on s = length_stack s.codes.now s.count

reverse_append : (xs ys st : List LinePosition) → reverse_aux (xs ++ ys) st ≡ reverse_aux ys (reverse_aux xs st)
reverse_append [] ys st = refl
reverse_append (x ∷ xs) ys st = reverse_append xs ys (x ∷ st)

-- the codes us, and those that are left
piled_left : {s s' : Stack} {us : List ℕ} → Piled s us s' → (vs : List ℕ)
    → reverse_aux (map line_of_code (us ++ vs)) (lines_on s) ≡ reverse_aux (map line_of_code vs) (lines_on s')
piled_left {s} {s'} {us} p vs =
    ap (λ (l : List LinePosition). reverse_aux l (lines_on s)) (map-append line_of_code us vs)
    ∙ reverse_append (map line_of_code us) (map line_of_code vs) (lines_on s)
    ∙ ap (reverse_aux (map line_of_code vs)) (sym p.lines)

pub piled_count : {s s' : Stack} {us : List ℕ} → Piled s us s' → s'.count ≡ s.count + length us
piled_count {s} {s'} {us} p = omega (
  arith,
  ap length p.lines,
  length-reverse_aux (map line_of_code us) (lines_on s),
  length-map us line_of_code,
  count_on s,
  count_on s',
)

pub piled_then : {r s t : Stack} {us vs : List ℕ} → Piled r us s → Piled s vs t → Piled r (us ++ vs) t
piled_then {vs = vs} p q = record { kept = kept_then p.kept q.kept; lines = q.lines ∙ sym (piled_left p vs) }

-- the codes vs, pushed on s, give what all codes give, pushed on s₀
pub record Leaving (s₀ : Stack) (all : List ℕ) (s : Stack) (vs : List ℕ) : Type 0 where
  pub kept : Kept s₀ s
  pub lines : reverse_aux (map line_of_code vs) (lines_on s) ≡ reverse_aux (map line_of_code all) (lines_on s₀)

module _ {s₀ s : Stack} {all vs : List ℕ} (v : Leaving s₀ all s vs) where
  pub leave_more : {s' : Stack} {us ws : List ℕ} → vs ≡ us ++ ws → Piled s us s' → Leaving s₀ all s' ws
  leave_more {ws = ws} e p = record {
    kept = kept_then v.kept p.kept;
    lines = sym (ap (λ l. reverse_aux (map line_of_code l) (lines_on s)) e ∙ piled_left p ws) ∙ v.lines;
  }

  pub leave_count : s.count + length vs ≡ s₀.count + length all
  leave_count = omega (
    arith,
    ap length v.lines,
    length-reverse_aux (map line_of_code vs) (lines_on s),
    length-reverse_aux (map line_of_code all) (lines_on s₀),
    length-map vs line_of_code,
    length-map all line_of_code,
    count_on s,
    count_on s₀,
  )

  pub leave_none : vs ≡ [] → Piled s₀ all s
  leave_none e = record { kept = v.kept; lines = sym (ap (λ l. reverse_aux (map line_of_code l) (lines_on s)) e) ∙ v.lines }
