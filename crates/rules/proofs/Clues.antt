-- Clues are exactly a line's runs; the clue of each placement of legal blocks, read with blank 1, is those blocks; and every line is a
-- placement of its own clue.
use mathlib.Core.Path.{◌≡◌, refl, sym, ap, ◌∙◌, subst}
use mathlib.Core.Bool.{Bool, true, false}
use mathlib.Core.Logic.{◌⊎◌, inl, inr, ◌≢◌}
use mathlib.Core.Option.{none, some}
use mathlib.Core.List.{List, [], ◌∷◌, ◌++◌, append-nil, append_assoc, nil≢cons, cons≢nil, head-eq_of_cons-eq, tail-eq_of_cons-eq}
use Prim.Native.Nat.{ℕ, zero, suc, ◌+◌, ◌≤◌, ◌<◌}
use native.Mathlib.Numerals.{add-one}
use native.Mathlib.Omega.{arith}
use borrow.Author.Tests.{eq-eqb, ne_eqb}
use lib.Dec.{eqb}
use lib.ListN.{length, replicate, length-append, length-replicate}
use Rattle.rules.specs.Block.{Block, ◌of◌, Legal, legal_none, legal_block}
use Rattle.rules.specs.Placement.{one, gap, pieces, Laid, end, blank, piece, Placement}
use Rattle.rules.specs.Clue.{Apart, RunsOf, no_code, a_blank, a_run, runs, clue}
use Rattle.rules.proofs.Tests.{Compared, nat_eq_cases}

-- ---- the computed clue is the line's runs

run_slide : (n c : ℕ) (l : List ℕ) → replicate (suc n) c ++ l ≡ replicate n c ++ (c ∷ l)
run_slide zero c l = refl
run_slide (suc n) c l = ap (λ (m : List ℕ). c ∷ m) (run_slide n c l)

-- with no run open, or with the run of n codes c open
record Computed (e : ℕ) (l : List ℕ) : Type 0 where
  shut : RunsOf e l (runs e none l)
  opened : (n c : ℕ) → 0 < n → c ≢ e → RunsOf e (replicate n c ++ l) (runs e (some (n of c)) l)

told : (e : ℕ) (l : List ℕ) → Computed e l
told e [] = record { shut = no_code; opened = λ n c h d. a_run n c h d tt no_code }
told e (d ∷ l) = let r = told e l in record { shut = shut r (nat_eq_cases d e); opened = λ n c h f. opened r n c h f (nat_eq_cases d e) (nat_eq_cases d c) }
  where
    blank_first : Computed e l → d ≡ e → RunsOf e (d ∷ l) (runs e none l)
    blank_first r p = subst (λ (x : ℕ). RunsOf e (x ∷ l) (runs e none l)) (sym p) (a_blank r.shut)

    shut : Computed e l → Compared d e → RunsOf e (d ∷ l) (runs e none (d ∷ l))
    shut r (inl p) = rw p.1 (blank_first r p.0)
    shut r (inr p) = rw p.1 (r.opened 1 d (omega arith) p.0)

    opened : Computed e l → (n c : ℕ) → 0 < n → c ≢ e → Compared d e
        → Compared d c → RunsOf e (replicate n c ++ (d ∷ l)) (runs e (some (n of c)) (d ∷ l))
    opened r n c h f (inl p) q = rw p.1 (a_run {l = d ∷ l} n c h f (λ u. f (sym u ∙ p.0)) (blank_first r p.0))
    opened r n c h f (inr p) (inl q) =
        rw (p.1, q.1, q.0)
        (subst (λ (m : List ℕ). RunsOf e m (runs e (some (suc n of c)) l)) (run_slide n c l) (r.opened (suc n) c (omega arith) f))
    opened r n c h f (inr p) (inr q) = rw (p.1, q.1) (a_run n c h f q.0 (r.opened 1 d (omega arith) p.0))

pub clue_runs : (e : ℕ) (l : List ℕ) → RunsOf e l (clue e l)
clue_runs e l = (told e l).shut

-- ---- a line has one list of runs

runs_grow : (e k n c : ℕ) (l : List ℕ) → c ≢ e → runs e (some (n of c)) (replicate k c ++ l) ≡ runs e (some ((k + n) of c)) l
runs_grow e zero n c l d = ap (λ (m : ℕ). runs e (some (m of c)) l) (omega arith)
runs_grow e (suc k) n c l d =
    rw (ne_eqb c e d, eq-eqb c c refl) (runs_grow e k (suc n) c l d ∙ ap (λ (m : ℕ). runs e (some (m of c)) l) (omega arith))

-- the run ends where another code begins
runs_ends : (e n c : ℕ) (l : List ℕ) → Apart c l → runs e (some (n of c)) l ≡ n of c ∷ runs e none l
runs_ends e n c [] a = refl
runs_ends e n c (d ∷ l) a = go (nat_eq_cases d e)
  where
    go : Compared d e → runs e (some (n of c)) (d ∷ l) ≡ n of c ∷ runs e none (d ∷ l)
    go (inl p) = rw p.1
    go (inr p) = rw (p.1, ne_eqb d c a)

pub clue_run : (e n c : ℕ) (l : List ℕ) → 0 < n → c ≢ e → Apart c l → clue e (replicate n c ++ l) ≡ n of c ∷ clue e l
clue_run e zero c l h d a = absurd (omega arith)
clue_run e (suc n) c l h d a =
    rw (ne_eqb c e d) (runs_grow e n 1 c l d ∙ ap (λ (m : ℕ). runs e (some (m of c)) l) (add-one n) ∙ runs_ends e (suc n) c l a)

pub runs_clue : {e : ℕ} {l : List ℕ} {bs : List Block} → RunsOf e l bs → clue e l ≡ bs
runs_clue no_code = refl
runs_clue {e} (a_blank {l = l} r) = rw (eq-eqb e e refl) (runs_clue r)
runs_clue {e} (a_run {l = l} n c h d a r) = clue_run e n c l h d a ∙ ap (λ t. n of c ∷ t) (runs_clue r)

-- a line has at most a run a cell
runs_length : {e : ℕ} {l : List ℕ} {bs : List Block} → RunsOf e l bs → length bs ≤ length l
runs_length no_code = omega arith
runs_length (a_blank r) = omega (arith, runs_length r)
runs_length (a_run {l = l} n c h d a r) = omega (arith, runs_length r, length-append (replicate n c) l, length-replicate {A = ℕ} n c)

pub clue_length : (e : ℕ) (l : List ℕ) → length (clue e l) ≤ length l
clue_length e l = runs_length (clue_runs e l)

-- ---- the clue of a placement of legal blocks is those blocks

gap_cases : (c : ℕ) (bs : List Block) → (gap c bs ≡ []) ⊎ (gap c bs ≡ 1 ∷ [])
gap_cases c [] = inl refl
gap_cases c (b ∷ bs) = go (eqb c b.colour)
  where
    go : (t : Bool) → (one t ≡ []) ⊎ (one t ≡ 1 ∷ [])
    go true = inr refl
    go false = inl refl

front : (n c d : ℕ) (l : List ℕ) → 0 < n → d ≢ c → Apart c (replicate n d ++ l)
front zero c d l h f = absurd (omega arith)
front (suc n) c d l h f = f

-- where no blank must follow a block of colour c, what follows does not begin with c
laid_apart : {bs : List Block} {ps : List (List ℕ)} {l : List ℕ} (c : ℕ) → Legal bs → c ≢ 1 → gap c bs ≡ [] → Laid ps l → ps ≡ pieces bs → Apart c l
laid_apart c o d g end e = tt
laid_apart c o d g (blank t) e = λ u. d (sym u)
laid_apart c legal_none d g (piece t) e = absurd (cons≢nil e)
laid_apart c (legal_block {b = b} {bs = bs} s k f o) d g (piece {l = l} t) e =
    subst (λ q. Apart c (q ++ l)) (sym (head-eq_of_cons-eq e))
    (subst (Apart c) (sym (append_assoc (replicate b.size b.colour) (gap b.colour bs) l))
    (front b.size c b.colour (gap b.colour bs ++ l) s other))
  where
    go : Compared c b.colour → b.colour ≢ c
    go (inl q) = absurd (cons≢nil (rw q.1 at g))
    go (inr q) = λ u. q.0 (sym u)

    other : b.colour ≢ c
    other = go (nat_eq_cases c b.colour)

laid_runs : {bs : List Block} {ps : List (List ℕ)} {l : List ℕ} → Legal bs → Laid ps l → ps ≡ pieces bs → RunsOf 1 l bs
laid_runs legal_none end e = no_code
laid_runs (legal_block s k f o) end e = absurd (nil≢cons e)
laid_runs o (blank t) e = a_blank (laid_runs o t e)
laid_runs legal_none (piece t) e = absurd (cons≢nil e)
laid_runs (legal_block {b = b} {bs = bs} s k f o) (piece {l = l} t) e =
    subst (λ q. RunsOf 1 (q ++ l) (b ∷ bs)) (sym (head-eq_of_cons-eq e))
    (subst (λ m. RunsOf 1 m (b ∷ bs)) (sym (append_assoc (replicate b.size b.colour) (gap b.colour bs) l))
    (go (gap_cases b.colour bs) (laid_runs o t (tail-eq_of_cons-eq e))))
  where
    go : (gap b.colour bs ≡ []) ⊎ (gap b.colour bs ≡ 1 ∷ []) → RunsOf 1 l bs
        → RunsOf 1 (replicate b.size b.colour ++ (gap b.colour bs ++ l)) (b ∷ bs)
    go (inl g) r = rw g (a_run b.size b.colour s f (laid_apart b.colour o f g t (tail-eq_of_cons-eq e)) r)
    go (inr g) r = rw g (a_run {l = 1 ∷ l} b.size b.colour s f (λ u. f (sym u)) (a_blank r))

pub placement_clue : {bs : List Block} {n : ℕ} {l : List ℕ} → Legal bs → Placement bs n l → clue 1 l ≡ bs
placement_clue o d = runs_clue (laid_runs o d.laid refl)

-- ---- a line is a placement of its own clue

-- laid, and where the line begins with a blank, laid without it
record Own (bs : List Block) (l : List ℕ) : Type 0 where
  whole : Laid (pieces bs) l
  tail : (m : List ℕ) → l ≡ 1 ∷ m → Laid (pieces bs) m

module _ (n c : ℕ) {l : List ℕ} (bs : List Block) where
  no_gap : gap c bs ≡ [] → Laid (pieces bs) l → Laid ((replicate n c ++ gap c bs) ∷ pieces bs) (replicate n c ++ l)
  no_gap g d = rw (g, append-nil (replicate n c)) (piece d)

  with_gap : (m : List ℕ) → gap c bs ≡ 1 ∷ [] → l ≡ 1 ∷ m → Laid (pieces bs) m → Laid ((replicate n c ++ gap c bs) ∷ pieces bs) (replicate n c ++ l)
  with_gap m g e d =
      rw (g, e) (subst (λ (x : List ℕ). Laid ((replicate n c ++ (1 ∷ [])) ∷ pieces bs) x) (append_assoc (replicate n c) (1 ∷ []) m) (piece d))

own_run : {l : List ℕ} {bs : List Block} (n c : ℕ) → Apart c l → RunsOf 1 l bs → Own bs l
    → Laid ((replicate n c ++ gap c bs) ∷ pieces bs) (replicate n c ++ l)
own_run n c a no_code w = no_gap n c [] refl w.whole
own_run n c a (a_blank {l = m} {bs = bs} r) w = go (gap_cases c bs)
  where
    go : (gap c bs ≡ []) ⊎ (gap c bs ≡ 1 ∷ []) → Laid ((replicate n c ++ gap c bs) ∷ pieces bs) (replicate n c ++ (1 ∷ m))
    go (inl g) = no_gap n c bs g w.whole
    go (inr g) = with_gap n c bs m g refl (w.tail m refl)
own_run n c a (a_run {l = m} {bs = bs} k d h f b r) w = no_gap n c (k of d ∷ bs) (rw (ne_eqb c d (other k h a))) w.whole
  where
    other : (k : ℕ) → 0 < k → Apart c (replicate k d ++ m) → c ≢ d
    other zero p q = absurd (omega arith)
    other (suc k) p q = λ u. q (sym u)

own : {l : List ℕ} {bs : List Block} → RunsOf 1 l bs → Own bs l
own no_code = record { whole = end; tail = λ m e. absurd (nil≢cons e) }
own (a_blank {bs = bs} r) =
    let w = own r in
    record { whole = blank w.whole; tail = λ m e. subst (λ (x : List ℕ). Laid (pieces bs) x) (tail-eq_of_cons-eq e) w.whole }
own (a_run {l = l} n c h d a r) = record { whole = own_run n c a r (own r); tail = λ m e. absurd (d (starts n h m e)) }
  where
    starts : (n : ℕ) → 0 < n → (m : List ℕ) → replicate n c ++ l ≡ 1 ∷ m → c ≡ 1
    starts zero p m e = absurd (omega arith)
    starts (suc n) p m e = head-eq_of_cons-eq e

pub own_placement : (l : List ℕ) → Placement (clue 1 l) (length l) l
own_placement l = record { laid = (own (clue_runs 1 l)).whole; long = refl }
