-- The one invariant of the loops that write a list: what is left to write gives the whole.
use mathlib.Core.Path.{◌≡◌, refl, sym, ap, ap₂, subst, ◌∙◌}
use mathlib.Core.List.{List, [], ◌∷◌, ◌++◌}
use Prim.Native.Nat.{ℕ, suc, ◌+◌, ◌≤◌}
use native.Mathlib.Numerals.{add-one}
use native.Mathlib.Nat.{add-zero, zero-add}
use native.Mathlib.Omega.{arith}
use lib.ListN.{length, drop, set, length-set, length-append}
use lib.Seq.{sets, length-sets, sets-eq}
use Rattle.rules.specs.Refusal.{written}
use Rattle.loops.specs.Put.{Put}

-- the values vs, put from index i of out on, give what vs₀ gives from index i₀ of out₀ on
pub record Going (out₀ : List ℕ) (i₀ : ℕ) (vs₀ out : List ℕ) (i : ℕ) (vs : List ℕ) : Type 0 where
  pub same : sets out i vs ≡ sets out₀ i₀ vs₀
  pub count : i + length vs ≡ i₀ + length vs₀
  pub long : length out ≡ length out₀

pub going_start : (out : List ℕ) (i : ℕ) (vs : List ℕ) → Going out i vs out i vs
going_start out i vs = record { same = refl; count = refl; long = refl }

sets_append : (out : List ℕ) (i : ℕ) (xs ys : List ℕ) → sets out i (xs ++ ys) ≡ sets (sets out i xs) (i + length xs) ys
sets_append out i [] ys = ap (λ n. sets out n ys) (sym (add-zero i))
sets_append out i (x ∷ xs) ys = sets_append (set out i x) (suc i) xs ys ∙ ap (λ n. sets (sets (set out i x) (suc i) xs) n ys) (omega arith)

-- the list stays as long as it was
pub put_length : {out vs out' : List ℕ} {i r : ℕ} → Put out i vs r out' → length out' ≡ length out
put_length {out} {vs} {i = i} p = ap length p.holds ∙ length-sets out i vs

module _ {out₀ : List ℕ} {i₀ : ℕ} {vs₀ out : List ℕ} {i : ℕ} {vs : List ℕ} (g : Going out₀ i₀ vs₀ out i vs) where
  -- one value is written
  pub going_put : {v : ℕ} {us : List ℕ} → vs ≡ v ∷ us → Going out₀ i₀ vs₀ (set out i v) (i + 1) us
  going_put {v} {us} e = record {
    same = rw (add-one i) (sym (ap (λ l. sets out i l) e) ∙ g.same);
    count = omega (arith, ap length e, g.count);
    long = length-set out i v ∙ g.long;
  }

  -- a list of them is
  pub going_puts : {out' xs us : List ℕ} {j : ℕ} → vs ≡ xs ++ us → Put out i xs j out' → Going out₀ i₀ vs₀ out' j us
  going_puts {out'} {xs} {us} {j} e p = record {
    same = ap₂ (λ l n. sets l n us) p.holds p.end ∙ sym (sets_append out i xs us) ∙ sym (ap (λ l. sets out i l) e) ∙ g.same;
    count = omega (arith, ap length e, length-append xs us, g.count, p.end);
    long = put_length p ∙ g.long;
  }

  -- nothing is
  pub going_on : {us : List ℕ} → vs ≡ us → Going out₀ i₀ vs₀ out i us
  going_on e = subst (λ (l : List ℕ). Going out₀ i₀ vs₀ out i l) e g

  pub going_done : vs ≡ [] → Put out₀ i₀ vs₀ i out
  going_done e = record { end = omega (arith, ap length e, g.count); holds = sym (ap (λ l. sets out i l) e) ∙ g.same }

-- some values, and then others after them
pub put_then : {out out' out'' us vs : List ℕ} {i j k : ℕ} → Put out i us j out' → Put out' j vs k out'' → Put out i (us ++ vs) k out''
put_then {out = out} {us = us} {vs = vs} {i = i} p q =
    record {
      end = omega (arith, p.end, q.end, length-append us vs);
      holds = q.holds ∙ ap₂ (λ l n. sets l n vs) p.holds p.end ∙ sym (sets_append out i us vs);
    }

-- ---- what one store after the other leaves, in the reader's words

pub written_sets : (vs out : List ℕ) → length vs ≤ length out → sets out 0 vs ≡ written vs out
written_sets vs out h = sets-eq vs out 0 (omega arith) ∙ ap (λ n. vs ++ drop n out) (zero-add (length vs))

module _ {out vs out' : List ℕ} {r : ℕ} (p : Put out 0 vs r out') where
  pub put_count : r ≡ length vs
  put_count = p.end ∙ zero-add (length vs)

  pub put_written : length vs ≤ length out → out' ≡ written vs out
  put_written h = p.holds ∙ written_sets vs out h
