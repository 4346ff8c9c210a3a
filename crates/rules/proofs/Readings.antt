-- A picture's codes read as colours: the clue stays, so that every line whose codes are allowed is a placement of its own clue; and read as
-- black and white, where every line is one.
use Rattle.std.proofs.lemmas.Bool.{or_parts}
use Prim.Native.Nat.{ℕ, zero, suc, ◌<◌, ◌*◌}
use borrow.Author.Tests.{eq-eqb, ne_eqb}
use lib.Dec.{eqb}
use lib.ListN.{length, get_or, replicate, length-map}
use mathlib.Core.Bool.{Bool, true, false, cond}
use mathlib.Core.List.{List, [], ◌∷◌, ◌++◌, map, map-append}
use mathlib.Core.Logic.{inl, inr, ◌≢◌}
use mathlib.Core.Option.{Option, none, some}
use mathlib.Core.Path.{◌≡◌, refl, sym, ap, ◌∙◌, ap₂, subst}
use native.Mathlib.Nat.{not-suc-le-zero, le_of_suc-le-suc}
use native.Mathlib.Omega.{arith}
use Rattle.rules.proofs.Blocks.{legal_colour}
use Rattle.rules.proofs.Boards.{place_lt}
use Rattle.rules.proofs.Clues.{clue_runs, runs_clue, clue_run, own_placement}
use Rattle.rules.proofs.Codes.{proper_codes}
use Rattle.rules.proofs.Tests.{Compared, nat_eq_cases}
use Rattle.rules.specs.Answer.{Proper}
use Rattle.rules.specs.Block.{Block, ◌of◌, black, sizes_by, Legal, illegal_colour_of, legal_none, legal_block}
use Rattle.rules.specs.Board.{len, On, place, tabulate, line_of}
use Rattle.rules.specs.Clue.{Apart, RunsOf, runs, clue, bad_code_of, read_code, read_binary, black_white, black_clue, Stops, Beside, InksApart, no_code, a_blank, a_run}
use Rattle.rules.specs.Colour.{Colour}
use Rattle.rules.specs.Placement.{Placement}
use Rattle.std.specs.List.{list_any}
use Rattle.rules.specs.declared.LinePosition.{LinePosition}

-- ---- lists

map-replicate : (f : ℕ → ℕ) (n c : ℕ) (l : List ℕ) → map f (replicate n c ++ l) ≡ replicate n (f c) ++ map f l
map-replicate f zero c l = refl
map-replicate f (suc n) c l = ap (λ (m : List ℕ). f c ∷ m) (map-replicate f n c l)

pub get_or-map_lt : (f : ℕ → ℕ) (l : List ℕ) (i : ℕ) → i < length l → get_or (map f l) i 0 ≡ f (get_or l i 0)
get_or-map_lt f [] i h = absurd (not-suc-le-zero h)
get_or-map_lt f (a ∷ l) zero h = refl
get_or-map_lt f (a ∷ l) (suc i) h = get_or-map_lt f l i (le_of_suc-le-suc h)

map_tabulate : (f : ℕ → ℕ) (n : ℕ) (g g' : ℕ → ℕ) → ((i : ℕ) → i < n → g' i ≡ f (g i)) → tabulate n g' ≡ map f (tabulate n g)
map_tabulate f zero g g' e = refl
map_tabulate f (suc n) g g' e =
    ap₂ (λ (a : ℕ) (l : List ℕ). a ∷ l) (e 0 (omega arith)) (map_tabulate f n (λ i. g (suc i)) (λ i. g' (suc i)) (λ i h. e (suc i) (omega arith)))

-- a line of a board that is read cell by cell
pub map_line : (f : ℕ → ℕ) (w h : ℕ) (b : List ℕ) (l : LinePosition) → length b ≡ h * w → On w h l → line_of w h (map f b) l ≡ map f (line_of w h b l)
unfolding line_of
map_line f w h b l size o =
    map_tabulate f (len w h l) (λ j. get_or b (place w l j) 0) (λ j. get_or (map f b) (place w l j) 0)
    (λ i p. get_or-map_lt f b (place w l i) (rw size (place_lt w h l i o p)))

-- ---- coloured codes

-- each code that is not blank is a legal colour
module _ (e : ℕ) where
  read_blank : read_code e e ≡ 1
  read_blank = rw (eq-eqb e e refl)

  read_other : {c : ℕ} → c ≢ e → read_code e c ≡ c
  read_other {c} d = rw (ne_eqb c e d)

  allowed : (c : ℕ) (l : List ℕ) → bad_code_of e (c ∷ l) ≡ false → c ≢ e → Colour c × (c ≢ 1)
  allowed c l g d =
      legal_colour c
      (sym (ap (λ t. cond t false (illegal_colour_of c)) (ne_eqb c e d)) ∙ (or_parts (cond (eqb c e) false (illegal_colour_of c)) (bad_code_of e l) g).0)

  rest_good : (n c : ℕ) (l : List ℕ) → bad_code_of e (replicate n c ++ l) ≡ false → bad_code_of e l ≡ false
  rest_good zero c l g = g
  rest_good (suc n) c l g = rest_good n c l (or_parts (cond (eqb c e) false (illegal_colour_of c)) (bad_code_of e (replicate n c ++ l)) g).1

  read_apart : (c : ℕ) (l : List ℕ) → c ≢ 1 → Apart c l → Apart c (map (read_code e) l)
  read_apart c [] f a = tt
  read_apart c (d ∷ l) f a = go (nat_eq_cases d e)
    where
      go : Compared d e → read_code e d ≢ c
      go (inl p) = rw p.1 (λ u. f (sym u))
      go (inr p) = rw p.1 a

  read_runs : {l : List ℕ} {bs : List Block} → RunsOf e l bs → bad_code_of e l ≡ false → RunsOf 1 (map (read_code e) l) bs
  read_runs no_code g = no_code
  read_runs (a_blank {l = l} {bs = bs} r) g =
      subst (λ (x : ℕ). RunsOf 1 (x ∷ map (read_code e) l) bs) (sym read_blank) (a_blank (read_runs r (rest_good 1 e l g)))
  read_runs (a_run {l = l} {bs = bs} n c h d a r) g =
      subst (λ (m : List ℕ). RunsOf 1 m (n of c ∷ bs))
      (sym (map-replicate (read_code e) n c l ∙ ap (λ x. replicate n x ++ map (read_code e) l) (read_other d)))
      (a_run n c h (first n h g) (read_apart c l (first n h g) a) (read_runs r (rest_good n c l g)))
    where
      first : (n : ℕ) → 0 < n → bad_code_of e (replicate n c ++ l) ≡ false → c ≢ 1
      first zero p q = absurd (omega arith)
      first (suc n) p q = (allowed c (replicate n c ++ l) q d).1

  -- the clue of the line as read
  pub read_clue : (l : List ℕ) → bad_code_of e l ≡ false → clue 1 (map (read_code e) l) ≡ clue e l
  read_clue l g = runs_clue (read_runs (clue_runs e l) g)

  -- a cell as read has one colour
  pub read_colour_lem : (c : ℕ) → cond (eqb c e) false (illegal_colour_of c) ≡ false → Colour (read_code e c)
  read_colour_lem c g = go (nat_eq_cases c e)
    where
      go : Compared c e → Colour (read_code e c)
      go (inl p) = rw p.1 (0, refl)
      go (inr p) = rw p.1 (legal_colour c (sym (ap (λ t. cond t false (illegal_colour_of c)) p.1) ∙ g)).0

  pub read_placement : (l : List ℕ) → bad_code_of e l ≡ false → Placement (clue e l) (length l) (map (read_code e) l)
  read_placement l g =
      subst (λ (bs : List Block). Placement bs (length l) (map (read_code e) l)) (read_clue l g)
      (subst (λ (n : ℕ). Placement (clue 1 (map (read_code e) l)) n (map (read_code e) l)) (length-map l (read_code e))
      (own_placement (map (read_code e) l)))

  -- the runs of allowed codes are legal blocks
  legal_runs : {l : List ℕ} {bs : List Block} → RunsOf e l bs → bad_code_of e l ≡ false → Legal bs
  legal_runs no_code g = legal_none
  legal_runs (a_blank {l = l} r) g = legal_runs r (rest_good 1 e l g)
  legal_runs (a_run {l = l} n c h d a r) g = let p = first n h g in legal_block {b = n of c} h p.0 p.1 (legal_runs r (rest_good n c l g))
    where
      first : (n : ℕ) → 0 < n → bad_code_of e (replicate n c ++ l) ≡ false → Colour c × (c ≢ 1)
      first zero p q = absurd (omega arith)
      first (suc n) p q = allowed c (replicate n c ++ l) q d

  pub codes_legal : (l : List ℕ) → bad_code_of e l ≡ false → Legal (clue e l)
  codes_legal l g = legal_runs (clue_runs e l) g

-- ---- binary codes: the line as black and white

module _ (e : ℕ) where
  pub black_colour : (c : ℕ) → Colour (read_binary e c)
  black_colour c = go (eqb c e)
    where
      go : (t : Bool) → Colour (cond t 1 2)
      go true = (0, refl)
      go false = (1, refl)

  black_proper : (l : List ℕ) → Proper (black_white e l)
  black_proper [] = tt
  black_proper (c ∷ l) = (black_colour c, black_proper l)

  -- the runs of any line are legal blocks
  pub black_legal : (l : List ℕ) → Legal (black_clue e l)
  black_legal l = codes_legal 1 (black_white e l) (proper_codes (black_white e l) (black_proper l))

  -- and any line is a placement of them
  pub black_placement : (l : List ℕ) → Placement (black_clue e l) (length l) (black_white e l)
  black_placement l =
      subst (λ (n : ℕ). Placement (black_clue e l) n (black_white e l)) (length-map l (read_binary e)) (own_placement (black_white e l))

  -- the run that is open, if it is a black one of n codes
  abbrev open_black : Option ℕ → Option Block
  open_black none = none
  open_black (some n) = some (black n)

  black_runs : (l : List ℕ) (o : Option ℕ) → map black (sizes_by (runs 1 (open_black o) (black_white e l))) ≡ runs 1 (open_black o) (black_white e l)
  black_runs [] none = refl
  black_runs [] (some n) = refl
  black_runs (c ∷ l) o = go o (eqb c e) (λ o'. black_runs l o')
    where
      go : (o : Option ℕ) (t : Bool)
          → ((o' : Option ℕ) → map black (sizes_by (runs 1 (open_black o') (black_white e l))) ≡ runs 1 (open_black o') (black_white e l))
          → map black (sizes_by (runs 1 (open_black o) (cond t 1 2 ∷ black_white e l))) ≡ runs 1 (open_black o) (cond t 1 2 ∷ black_white e l)
      go none true up = up none
      go (some n) true up = ap (λ bs. black n ∷ bs) (up none)
      go none false up = up (some 1)
      go (some n) false up = up (some (suc n))

  -- each of them is black
  pub black_only : (l : List ℕ) → map black (sizes_by (black_clue e l)) ≡ black_clue e l
  black_only l = black_runs l none

  -- a blank code adds nothing to the clue
  pub blank_passed : (l : List ℕ) → black_clue e (e ∷ l) ≡ black_clue e l
  blank_passed l = rw (eq-eqb e e refl)

  -- a stretch of codes that are not blank, whatever they are, is one black block as long, where a blank code or the line's end follows
  stretch_black : (s : List ℕ) → list_any (λ c. eqb c e) s ≡ false → black_white e s ≡ replicate (length s) 2
  stretch_black [] g = refl
  stretch_black (c ∷ s) g = let p = or_parts (eqb c e) (list_any (λ d. eqb d e) s) g in rw p.0 (ap (λ (l : List ℕ). 2 ∷ l) (stretch_black s p.1))

  stop_apart : (l : List ℕ) → Stops e l → Apart 2 (black_white e l)
  stop_apart [] p = tt
  stop_apart (d ∷ l) p = rw (eq-eqb d e p) (λ u. omega arith)

  pub stretch_counted : (s l : List ℕ) → 0 < length s → list_any (λ c. eqb c e) s ≡ false → Stops e l
      → black_clue e (s ++ l) ≡ black (length s) ∷ black_clue e l
  stretch_counted s l h g p =
      ap (clue 1) (map-append (read_binary e) s l ∙ ap (λ (k : List ℕ). k ++ black_white e l) (stretch_black s g))
      ∙ clue_run 1 (length s) 2 (black_white e l) h (λ u. omega arith) (stop_apart l p)

-- ---- where no two different inks touch, the binary clue has the sizes of the coloured runs

module _ (e : ℕ) where
  -- with no run open, or with a run of n codes c
  record SameSizes (l : List ℕ) : Type 0 where
    shut : sizes_by (runs e none l) ≡ sizes_by (runs 1 none (black_white e l))
    opened : (n c : ℕ) → c ≢ e → Beside e c l → sizes_by (runs e (some (n of c)) l) ≡ sizes_by (runs 1 (some (black n)) (black_white e l))

  same_sizes : (l : List ℕ) → InksApart e l → SameSizes l
  same_sizes [] a = record { shut = refl; opened = λ n c p q. refl }
  same_sizes (d ∷ l) a =
      let r = same_sizes l a.1 in
      record { shut = shut r (nat_eq_cases d e); opened = λ n c p q. opened r n c p q (nat_eq_cases d e) (nat_eq_cases d c) }
    where
      shut : SameSizes l → Compared d e → sizes_by (runs e none (d ∷ l)) ≡ sizes_by (runs 1 none (black_white e (d ∷ l)))
      shut r (inl p) = rw p.1 r.shut
      shut r (inr p) = rw p.1 (r.opened 1 d p.0 a.0)

      opened : SameSizes l → (n c : ℕ) → c ≢ e → Beside e c (d ∷ l) → Compared d e → Compared d c
          → sizes_by (runs e (some (n of c)) (d ∷ l)) ≡ sizes_by (runs 1 (some (black n)) (black_white e (d ∷ l)))
      opened r n c f q (inl p) k = rw p.1 (ap (λ t. n ∷ t) r.shut)
      opened r n c f q (inr p) (inl k) = rw (p.1, k.1) (r.opened (suc n) d p.0 a.0)
      opened r n c f (inl u) (inr p) (inr k) = absurd (f u)
      opened r n c f (inr (inl u)) (inr p) (inr k) = absurd (p.0 u)
      opened r n c f (inr (inr u)) (inr p) (inr k) = absurd (k.0 u)

  pub inks_apart : (l : List ℕ) → InksApart e l → sizes_by (black_clue e l) ≡ sizes_by (clue e l)
  inks_apart l a = sym (same_sizes l a).shut
