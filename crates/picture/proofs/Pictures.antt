-- What the calls for clues tell of pictures, from their statements alone.
use Rattle.std.specs.Prelude.{Err, Ok, Result}
use Rattle.rules.specs.Refusal.{GoodSides, Rule, reply, verdict, side_rules, left, memo_size, stack_size, Verdict}
use Rattle.picture.proofs.Told.{binary_known, coloured_known}
use Rattle.clue.proofs.Told.{room_fine, codes_fine}
use Prim.Native.Nat.{ℕ, ◌+◌, ◌<◌, ◌≤◌, ◌*◌}
use lib.Dec.{eqb, leb}
use lib.ListN.{length, take, drop, get_or, length-map}
use lib.Seq.{take_at}
use mathlib.Core.Bool.{Bool, true, false, cond, ◌&&◌}
use mathlib.Core.List.{List, [], ◌∷◌, map}
use mathlib.Core.Path.{◌≡◌, refl, sym, ap, ◌∙◌, subst}
use native.Mathlib.Omega.{arith}
use Rattle.picture.specs.Calls.{grid_fits, clues_reply, totals, GridLists, binary_clues_rules, coloured_clues_rules, BinaryClues, ColouredClues, card_in, black_card_in}
use Rattle.clue.specs.Calls.{room_rules}
use Rattle.rules.specs.Colour.{Colour}
use Rattle.rules.proofs.Boards.{place_lt, length_line, get_or_line}
use Rattle.rules.proofs.Clues.{clue_length}
use Rattle.rules.proofs.Codes.{any_at, any-all}
use Rattle.rules.proofs.Gatherings.{lines_counted, lines_paired, gathered_card, gathered_clue, gathered_fine, in_black, black_length, black_gathered}
use Rattle.rules.proofs.Readings.{get_or-map_lt, map_line, read_colour_lem, read_placement, codes_legal, black_placement, black_only, black_colour, black_legal}
use Rattle.picture.proofs.Fitted.{Fitted, fits_all}
use Rattle.rules.proofs.Verdicts.{sides_fine, sides_good, append_fine}
use Rattle.rules.specs.Block.{Block, sizes_by, colours_by, Legal, illegal_colour_of}
use Rattle.rules.specs.Board.{row, column, len, On, place, line_of, Picture}
use Rattle.rules.specs.Card.{clue_of, Straight, row_clues_of, column_clues_of, gathered, count_of}
use Rattle.rules.specs.CardRules.{card_rules}
use Rattle.rules.specs.Clue.{clue, bad_code_of, read_code, read_binary, black_white, black_clue}
use Rattle.rules.specs.Placement.{Placement}
use Rattle.std.specs.List.{list_any}
use Rattle.rules.specs.declared.LinePosition.{LinePosition}
use Rattle.rules.specs.declared.LinePosition.TheVariants.{Row, Column}
use Rattle.rules.specs.declared.Refusal.{Refusal}
use Rattle.picture.specs.declared.Totals.{Totals}

-- ---- the lists that a call left

-- the front of a list that a call left is what it wrote
front : {v : Verdict} (vs out out' : List ℕ) (n : ℕ) → v ≡ Ok tt → out' ≡ left v vs out → length vs ≡ n → take n out' ≡ vs
front vs out out' n e q l = ap (take n) (q ∙ rw e refl) ∙ take_at vs (drop (length vs) out) n l

-- a call that answered with counts refused nothing
pub done_fine : (v : Verdict) (a b m n : ℕ) → clues_reply (Ok (totals m n)) ≡ reply v (a ∷ b ∷ []) → (v ≡ Ok tt) × (m ≡ a) × (n ≡ b)
done_fine (Ok _) a b m n e = (refl, cc, cc)
done_fine (Err w) a b m n e = let h = ap length e in absurd (omega arith)

module _ (f : List ℕ → List Block) (w h m n : ℕ) (b : List ℕ) {rules : List Rule} {rc rs cc cs rc' rs' cc' cs' : List ℕ}
    (c : GridLists rules (row_clues_of f w h b) (column_clues_of f w h b) rc rs cc cs (Ok (totals m n)) rc' rs' cc' cs') where
  abbrev rows : List (List Block)
  rows = row_clues_of f w h b

  abbrev columns : List (List Block)
  columns = column_clues_of f w h b

  fine : (verdict rules ≡ Ok tt) × (m ≡ length (gathered sizes_by rows)) × (n ≡ length (gathered sizes_by columns))
  fine = done_fine (verdict rules) (length (gathered sizes_by rows)) (length (gathered sizes_by columns)) m n c.answers

  -- the counts and the sizes of the lines, one after the other
  lists_back : (take h rc' ≡ gathered count_of rows) × (take m rs' ≡ gathered sizes_by rows) × (take w cc' ≡ gathered count_of columns) ×
      (take n cs' ≡ gathered sizes_by columns)
  lists_back = (
    front (gathered count_of rows) rc rc' h fine.0 c.row_counts (lines_counted (λ y. f (line_of w h b (row y))) h),
    front (gathered sizes_by rows) rs rs' m fine.0 c.row_sizes (sym fine.1),
    front (gathered count_of columns) cc cc' w fine.0 c.column_counts (lines_counted (λ x. f (line_of w h b (column x))) w),
    front (gathered sizes_by columns) cs cs' n fine.0 c.column_sizes (sym fine.2),
  )

-- ---- a grid: whatever the blank code, the picture as read is one of the clues that the call left

-- what holds of no code of the picture holds of none of a line
line_none : (w h : ℕ) (b : List ℕ) → length b ≡ h * w → (f : ℕ → Bool) → list_any f b ≡ false → (l : LinePosition) → On w h l
    → list_any f (line_of w h b l) ≡ false
line_none w h b size f good l o = any-all f (line_of w h b l) (λ i p. at i (omega (arith, length_line w h b l)))
  where
    at : (i : ℕ) → i < len w h l → f (get_or (line_of w h b l) i 0) ≡ false
    at i q = rw (get_or_line w h b l i q) (any_at f b (place w l i) good (omega (arith, place_lt w h l i o q)))

-- a board read cell by cell is a picture, where each cell has one colour and each line as read is a placement
picture_read : (f : ℕ → ℕ) (w h : ℕ) (b : List ℕ) (k : LinePosition → List Block) → length b ≡ h * w
    → ((i : ℕ) → i < length b → Colour (f (get_or b i 0)))
    → ((l : LinePosition) → On w h l → Placement (k l) (length (line_of w h b l)) (map f (line_of w h b l))) → Picture (Straight w h k) w h (map f b)
picture_read f w h b k size single placed = record {
  size = length-map b f ∙ size;
  single = λ x y p q.
      let c = place_lt w h (column x) y p q in
      subst Colour (sym (get_or-map_lt f b (y * w + x) (omega (arith, c)))) (single (y * w + x) (omega (arith, c)));
  placed = λ l o. rw (map_line f w h b l size o) (subst (λ (n : ℕ). Placement (k l) n (map f (line_of w h b l))) (length_line w h b l) (placed l o));
}

-- a line's clue has at most 64 blocks
line_few : (f : List ℕ → List Block) → ((k : List ℕ) → length (f k) ≤ length k) → (w h : ℕ) (b : List ℕ) → verdict (side_rules w h) ≡ Ok tt
    → (l : LinePosition) → length (f (line_of w h b l)) ≤ 64
line_few f short w h b q l = omega (arith, short (line_of w h b l), length_line w h b l, low l)
  where
    low : (l : LinePosition) → len w h l ≤ 64
    low (Row y) = (sides_fine w h q).1
    low (Column x) = (sides_fine w h q).3

module _ {e w h m n : ℕ} {b rc rs rt cc cs ct rc' rs' rt' cc' cs' ct' : List ℕ} (c : ColouredClues e w h b rc rs rt cc cs ct (Ok (totals m n)) rc' rs' rt' cc' cs' ct') where
  abbrev fits : Bool
  fits = grid_fits w h (length b) (length rc) (length rs) (length cc) (length cs) && (leb (w * h) (length rt) && leb (w * h) (length ct))

  kept : verdict (coloured_clues_rules e w h b rc rs rt cc cs ct) ≡ Ok tt
  kept = (fine (clue e) w h m n b c.lists).0

  tested : (verdict (side_rules w h) ≡ Ok tt) × (fits ≡ true) × (bad_code_of e b ≡ false)
  tested = codes_fine (side_rules w h) fits (bad_code_of e b) kept

  sized : length b ≡ h * w
  sized = omega (arith, (coloured_known w h b rc rs cc cs e rt ct kept).0.size)

  line_good : (l : LinePosition) → On w h l → bad_code_of e (line_of w h b l) ≡ false
  line_good l o = line_none w h b sized (λ x. cond (eqb x e) false (illegal_colour_of x)) tested.2 l o

  -- the lists as left hold the clues, line after line
  card_back : card_in w h m n rc' rs' rt' cc' cs' ct' ≡ gathered_card w h (λ l. clue e (line_of w h b l))
  card_back =
      let q = lists_back (clue e) w h m n b c.lists in
      let k = fine (clue e) w h m n b c.lists in
      rw (
        q.0,
        q.1,
        q.2,
        q.3,
        front (gathered colours_by (row_clues_of (clue e) w h b)) rt rt' m kept c.colours.row_colours
            (lines_paired (λ y. clue e (line_of w h b (row y))) h ∙ sym k.1),
        front (gathered colours_by (column_clues_of (clue e) w h b)) ct ct' n kept c.colours.column_colours
            (lines_paired (λ x. clue e (line_of w h b (column x))) w ∙ sym k.2),
      )

  pub clues_back : (l : LinePosition) → On w h l → clue_of (card_in w h m n rc' rs' rt' cc' cs' ct') l ≡ clue e (line_of w h b l)
  clues_back l o = gathered_clue w h (λ k. clue e (line_of w h b k)) card_back l o

  pub picture_of_clues : Picture (Straight w h (clue_of (card_in w h m n rc' rs' rt' cc' cs' ct'))) w h (map (read_code e) b)
  picture_of_clues =
      picture_read (read_code e) w h b (clue_of (card_in w h m n rc' rs' rt' cc' cs' ct')) sized
      (λ i p. read_colour_lem e (get_or b i 0) (any_at (λ x. cond (eqb x e) false (illegal_colour_of x)) b i tested.2 p))
      (λ l o. rw (clues_back l o) (read_placement e (line_of w h b l) (line_good l o)))

  pub clues_legal : (l : LinePosition) → On w h l → Legal (clue_of (card_in w h m n rc' rs' rt' cc' cs' ct') l)
  clues_legal l o = subst (λ (bs : List Block). Legal bs) (sym (clues_back l o)) (codes_legal e (line_of w h b l) (line_good l o))

  -- lent to a run, with as many cells and enough memory, they break no rule of a card
  pub clues_lent : (cells memo stack : ℕ) → cells ≡ w * h → memo_size ≤ memo → stack_size ≤ stack
      → verdict (card_rules w h cells (card_in w h m n rc' rs' rt' cc' cs' ct') memo stack) ≡ Ok tt
  clues_lent cells memo stack p q r =
      gathered_fine w h (λ l. clue e (line_of w h b l)) card_back cells memo stack tested.0 p q r
      (λ l o. codes_legal e (line_of w h b l) (line_good l o)) (λ l o. line_few (clue e) (clue_length e) w h b tested.0 l)

-- ---- the same for binary clues, of any codes: every code but the blank one is black

module _ (e w h m n : ℕ) (b : List ℕ) {rc rs cc cs rc' rs' cc' cs' : List ℕ} (c : BinaryClues e w h b rc rs cc cs (Ok (totals m n)) rc' rs' cc' cs') where
  binary_kept : verdict (binary_clues_rules w h b rc rs cc cs) ≡ Ok tt
  binary_kept = (fine (black_clue e) w h m n b c).0

  binary_sides : verdict (side_rules w h) ≡ Ok tt
  binary_sides = (room_fine (side_rules w h) (grid_fits w h (length b) (length rc) (length rs) (length cc) (length cs)) binary_kept).0

  binary_sized : length b ≡ h * w
  binary_sized = omega (arith, (binary_known w h b rc rs cc cs binary_kept).0.size)

  black_back : black_card_in w h m n rc' rs' cc' cs' ≡ gathered_card w h (λ l. in_black (black_clue e (line_of w h b l)))
  black_back =
      let q = lists_back (black_clue e) w h m n b c in
      rw (q.0, q.1, q.2, q.3) (black_gathered w h (λ l. black_clue e (line_of w h b l)))

  pub binary_clues_back : (l : LinePosition) → On w h l → clue_of (black_card_in w h m n rc' rs' cc' cs') l ≡ black_clue e (line_of w h b l)
  binary_clues_back l o = gathered_clue w h (λ k. in_black (black_clue e (line_of w h b k))) black_back l o ∙ black_only e (line_of w h b l)

  pub picture_of_binary_clues : Picture (Straight w h (clue_of (black_card_in w h m n rc' rs' cc' cs'))) w h (black_white e b)
  picture_of_binary_clues =
      picture_read (read_binary e) w h b (clue_of (black_card_in w h m n rc' rs' cc' cs')) binary_sized (λ i p. black_colour e (get_or b i 0))
      (λ l o. rw (binary_clues_back l o) (black_placement e (line_of w h b l)))

  pub binary_clues_legal : (l : LinePosition) → On w h l → Legal (clue_of (black_card_in w h m n rc' rs' cc' cs') l)
  binary_clues_legal l o = subst (λ (bs : List Block). Legal bs) (sym (binary_clues_back l o)) (black_legal e (line_of w h b l))

  pub binary_clues_lent : (cells memo stack : ℕ) → cells ≡ w * h → memo_size ≤ memo → stack_size ≤ stack
      → verdict (card_rules w h cells (black_card_in w h m n rc' rs' cc' cs') memo stack) ≡ Ok tt
  binary_clues_lent cells memo stack p q r =
      gathered_fine w h (λ l. in_black (black_clue e (line_of w h b l))) black_back cells memo stack binary_sides p q r
      (λ l o. subst (λ (bs : List Block). Legal bs) (sym (black_only e (line_of w h b l))) (black_legal e (line_of w h b l)))
      (λ l o. omega (arith, black_length (black_clue e (line_of w h b l)), line_few (black_clue e) short w h b binary_sides l))
    where
      short : (k : List ℕ) → length (black_clue e k) ≤ length k
      short k = omega (arith, clue_length 1 (black_white e k), length-map k (read_binary e))

-- ---- every binary picture, whatever its codes and its blank code, agrees with its own clues, as the call left them

-- a picture that fits, with room for its clues, breaks no rule
pub binary_fine : (w h : ℕ) (b rc rs cc cs : List ℕ) → GoodSides w h → Fitted w h (length b) (length rc) (length rs) (length cc) (length cs)
    → verdict (binary_clues_rules w h b rc rs cc cs) ≡ Ok tt
binary_fine w h b rc rs cc cs g f =
    append_fine (side_rules w h) (room_rules (grid_fits w h (length b) (length rc) (length rs) (length cc) (length cs))) (sides_good w h g)
    ∙ rw (fits_all f)

-- the call is done, and each row and column of the picture as read is a placement of the clue that it left
pub record OwnClues (e w h : ℕ) (b : List ℕ) (r : Result Totals Refusal) (rc' rs' cc' cs' : List ℕ) : Type 0 where
  pub rows : ℕ
  pub columns : ℕ
  pub done : r ≡ Ok (totals rows columns)
  pub picture : Picture (Straight w h (clue_of (black_card_in w h rows columns rc' rs' cc' cs'))) w h (black_white e b)

pub own_clues : (e w h : ℕ) (b : List ℕ) {rc rs cc cs rc' rs' cc' cs' : List ℕ} {r : Result Totals Refusal} → GoodSides w h
    → Fitted w h (length b) (length rc) (length rs) (length cc) (length cs) → BinaryClues e w h b rc rs cc cs r rc' rs' cc' cs'
    → OwnClues e w h b r rc' rs' cc' cs'
own_clues e w h b {rc} {rs} {cc} {cs} {rc'} {rs'} {cc'} {cs'} {r} g f c = go r c
  where
    go : (s : Result Totals Refusal) → BinaryClues e w h b rc rs cc cs s rc' rs' cc' cs' → OwnClues e w h b s rc' rs' cc' cs'
    go (Ok t) k = record { rows = t.rows; columns = t.columns; done = refl; picture = picture_of_binary_clues e w h t.rows t.columns b k }
    go (Err u) k = let q = rw (binary_fine w h b rc rs cc cs g f) at k.answers in let l = ap length q in absurd (omega arith)
