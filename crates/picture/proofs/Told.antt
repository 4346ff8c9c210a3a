-- The statements of the public calls, from what their parts tell.
use Rattle.std.specs.Prelude.{Err, Ok}
use Rattle.picture.specs.Calls.{binary_clues_rules, coloured_clues_rules, grid_fits, GridLists, GridColours, totals}
use Rattle.clue.specs.Calls.{room_rules, code_rules}
use Rattle.rules.specs.Clue.{bad_code_of}
use Prim.Native.Nat.{◌≤◌, ℕ, zero, suc, ◌*◌}
use lib.Dec.{leb}
use lib.ListN.{length, length-append}
use mathlib.Core.Bool.{Bool, true, false, ◌&&◌}
use mathlib.Core.List.{List, [], ◌∷◌, ◌++◌}
use mathlib.Core.Path.{◌≡◌, refl, sym, ap, ◌∙◌, ap₂, subst}
use native.Mathlib.Nat.{suc-mul}
use native.Mathlib.Omega.{arith}
use Rattle.clue.proofs.Runs.{entries_low}
use Rattle.clue.proofs.Told.{room_fine, codes_fine}
use Rattle.picture.proofs.Fitted.{fitted}
use Rattle.clue.specs.Steps.{entries, per, clue_as}
use Rattle.picture.specs.Steps.{GridRoom, CluesPut, ColoursPut}
use Rattle.grid.specs.Grid.{Grid}
use Rattle.clue.specs.declared.Ink.{Ink}
use Rattle.clue.specs.declared.Part.{Part}
use Rattle.clue.specs.declared.Part.TheVariants.{Count, Each}
use Rattle.clue.specs.declared.Field.TheVariants.{Colour, Size}
use Rattle.loops.proofs.Going.{written_sets, put_count, put_written}
use Rattle.rules.proofs.Boards.{length_line}
use Rattle.rules.proofs.Tests.{both_true, rooms}
use Rattle.rules.proofs.Verdicts.{sides_fine, verdict_append, ◌then◌}
use Rattle.rules.specs.Block.{Block, colours_by}
use Rattle.rules.specs.Board.{row, column, len, line_of}
use Rattle.rules.specs.Card.{lines_from, row_clues_of, column_clues_of, gathered, count_of}
use Rattle.rules.specs.Refusal.{Rule, Verdict, verdict, side_rules}
use Rattle.rules.specs.declared.LinePosition.{LinePosition}
use Rattle.rules.specs.declared.Refusal.{Refusal}

-- ---- how long the lists are

gathered_low : (F : List Block → List ℕ) (f : ℕ → List Block) (p : ℕ) → ((k : ℕ) → length (F (f k)) ≤ p) → (k n : ℕ)
    → length (gathered F (lines_from f k n)) ≤ n * p
gathered_low F f p low k zero = omega arith
gathered_low F f p low k (suc n) =
    omega (arith, low k, gathered_low F f p low (suc k) n, length-append (F (f k)) (gathered F (lines_from f (suc k) n)), suc-mul n p)

module _ (i : Ink) (p : Part) (e w h : ℕ) (b : List ℕ) where
  pub line_low : (l : LinePosition) → length (entries p (clue_as i e (line_of w h b l))) ≤ per p (len w h l)
  line_low l =
      subst (λ (n : ℕ). length (entries p (clue_as i e (line_of w h b l))) ≤ per p n) (length_line w h b l) (entries_low i p e (line_of w h b l))

  pub rows_low : length (gathered (entries p) (row_clues_of (clue_as i e) w h b)) ≤ h * per p w
  rows_low = gathered_low (entries p) (λ y. clue_as i e (line_of w h b (row y))) (per p w) (λ k. line_low (row k)) 0 h

  pub columns_low : length (gathered (entries p) (column_clues_of (clue_as i e) w h b)) ≤ w * per p h
  columns_low = gathered_low (entries p) (λ x. clue_as i e (line_of w h b (column x))) (per p h) (λ k. line_low (column k)) 0 w

-- ---- the statement

module _ {rules : List Rule} {rows columns : List (List Block)} {rc rs cc cs : List ℕ} where
  pub lists_refused : {w : Refusal} → verdict rules ≡ Err w → GridLists rules rows columns rc rs cc cs (Err w) rc rs cc cs
  lists_refused q = record { answers = rw q; row_counts = rw q; row_sizes = rw q; column_counts = rw q; column_sizes = rw q }

pub colours_refused : {rules : List Rule} {rows columns : List (List Block)} {rt ct : List ℕ} {w : Refusal} → verdict rules ≡ Err w
    → GridColours rules rows columns rt ct rt ct
colours_refused q = record { row_colours = rw q; column_colours = rw q }

module _ (i : Ink) (e w h : ℕ) (b : List ℕ) {rules : List Rule} (q : verdict rules ≡ Ok tt) where
  pub lists_done : {rc rs cc cs rc' rs' cc' cs' : List ℕ} {m n : ℕ} → GridRoom w h rc rs cc cs
      → CluesPut (row_clues_of (clue_as i e) w h b) (column_clues_of (clue_as i e) w h b) rc rs cc cs m n rc' rs' cc' cs'
      → GridLists rules (row_clues_of (clue_as i e) w h b) (column_clues_of (clue_as i e) w h b) rc rs cc cs (Ok (totals m n)) rc' rs' cc' cs'
  lists_done {rc} {rs} {cc} {cs} {m = m} {n = n} g p = record {
    answers = rw q (ap₂ (λ x y. 0 ∷ x ∷ y ∷ []) (put_count p.row_sizes) (put_count p.column_sizes));
    row_counts = rw q (p.row_counts ∙ written_sets (gathered count_of (row_clues_of (clue_as i e) w h b)) rc (omega (arith, rows_low i Count e w h b, g.row_counts)));
    row_sizes = rw q (put_written p.row_sizes (omega (arith, rows_low i (Each Size) e w h b, g.row_sizes)));
    column_counts =
        rw q
        (p.column_counts
        ∙ written_sets (gathered count_of (column_clues_of (clue_as i e) w h b)) cc (omega (arith, columns_low i Count e w h b, g.column_counts)));
    column_sizes = rw q (put_written p.column_sizes (omega (arith, columns_low i (Each Size) e w h b, g.column_sizes)));
  }

  pub colours_done : {rt ct rt' ct' : List ℕ} → w * h ≤ length rt → w * h ≤ length ct
      → ColoursPut (row_clues_of (clue_as i e) w h b) (column_clues_of (clue_as i e) w h b) rt ct rt' ct' → GridColours rules (row_clues_of (clue_as i e) w h b) (column_clues_of (clue_as i e) w h b) rt ct rt' ct'
  colours_done {rt} {ct} x y p = record {
    row_colours = rw q (p.row_colours ∙ written_sets (gathered colours_by (row_clues_of (clue_as i e) w h b)) rt (omega (arith, rows_low i (Each Colour) e w h b)));
    column_colours =
        rw q (p.column_colours ∙ written_sets (gathered colours_by (column_clues_of (clue_as i e) w h b)) ct (omega (arith, columns_low i (Each Colour) e w h b)));
  }

-- ---- the rules

-- the rules of coloured clues are those of binary ones, and then room for the colours, and 9
coloured_then : (xs : List Rule) (f g b : Bool) → verdict (xs ++ code_rules (f && g) b) ≡ verdict (xs ++ room_rules f) then verdict (code_rules g b)
coloured_then xs f g b =
    verdict_append xs (code_rules (f && g) b) ∙ go (verdict xs) f ∙ ap (λ v. v then verdict (code_rules g b)) (sym (verdict_append xs (room_rules f)))
  where
    go : (v : Verdict) (f : Bool) → v then verdict (code_rules (f && g) b) ≡ (v then verdict (room_rules f)) then verdict (code_rules g b)
    go (Ok _) true = refl
    go (Ok _) false = refl
    go (Err w) f = refl

pub coloured_judged : (e w h : ℕ) (b rc rs rt cc cs ct : List ℕ)
    → verdict (coloured_clues_rules e w h b rc rs rt cc cs ct)
    ≡ verdict (binary_clues_rules w h b rc rs cc cs) then verdict (code_rules (leb (w * h) (length rt) && leb (w * h) (length ct)) (bad_code_of e b))
coloured_judged e w h b rc rs rt cc cs ct =
    coloured_then (side_rules w h) (grid_fits w h (length b) (length rc) (length rs) (length cc) (length cs))
    (leb (w * h) (length rt) && leb (w * h) (length ct)) (bad_code_of e b)

grid_known : (w h : ℕ) (b rc rs cc cs : List ℕ) → verdict (side_rules w h) ≡ Ok tt
    → grid_fits w h (length b) (length rc) (length rs) (length cc) (length cs) ≡ true
    → Grid w h b × GridRoom w h rc rs cc cs
grid_known w h b rc rs cc cs q e =
    let s = sides_fine w h q in
    let f = fitted w h (length b) (length rc) (length rs) (length cc) (length cs) e in (
      record { wide = s.0; wide_most = s.1; high = s.2; high_most = s.3; size = f.exact },
      record { row_counts = f.row_counts; row_sizes = f.row_sizes; column_counts = f.column_counts; column_sizes = f.column_sizes },
    )

colours_room : (w h : ℕ) (f : Bool) (a b : ℕ) → (f && (leb (w * h) a && leb (w * h) b)) ≡ true → (f ≡ true) × (w * h ≤ a) × (w * h ≤ b)
colours_room w h f a b e =
    let x = both_true f (leb (w * h) a && leb (w * h) b) e in
    let y = rooms (w * h) a b x.1 in
    (x.0, y.0, y.1)

-- what is known where no rule is broken
module _ (w h : ℕ) (b rc rs cc cs : List ℕ) where
  pub binary_known : verdict (binary_clues_rules w h b rc rs cc cs) ≡ Ok tt → Grid w h b × GridRoom w h rc rs cc cs
  binary_known v =
      let p = room_fine (side_rules w h) (grid_fits w h (length b) (length rc) (length rs) (length cc) (length cs)) v in
      grid_known w h b rc rs cc cs p.0 p.1

  module _ (e : ℕ) (rt ct : List ℕ) (v : verdict (coloured_clues_rules e w h b rc rs rt cc cs ct) ≡ Ok tt) where
    abbrev fits : Bool
    fits = grid_fits w h (length b) (length rc) (length rs) (length cc) (length cs)

    parts : (verdict (side_rules w h) ≡ Ok tt) × ((fits && (leb (w * h) (length rt) && leb (w * h) (length ct))) ≡ true) × (bad_code_of e b ≡ false)
    parts = codes_fine (side_rules w h) (fits && (leb (w * h) (length rt) && leb (w * h) (length ct))) (bad_code_of e b) v

    pub coloured_known : Grid w h b × GridRoom w h rc rs cc cs
    coloured_known = grid_known w h b rc rs cc cs parts.0 (colours_room w h fits (length rt) (length ct) parts.1).0

    pub colours_known : (w * h ≤ length rt) × (w * h ≤ length ct)
    colours_known = let p = colours_room w h fits (length rt) (length ct) parts.1 in (p.1, p.2)
