-- Cards that hold the clues of a board's lines, line after line: each line's part is its clue, and legal clues break no rule of a card.
use Rattle.std.specs.Prelude.{Ok}
use mathlib.Core.Path.{◌≡◌, refl, sym, ap, ap₂, ◌∙◌, subst}
use mathlib.Core.Bool.{true, false}
use mathlib.Core.List.{List, [], ◌∷◌, ◌++◌, map, map-append, map-map}
use Prim.Native.Nat.{ℕ, zero, suc, ◌+◌, ◌*◌, ◌≤◌, ◌<◌}
use native.Mathlib.Nat.{add-zero}
use native.Mathlib.Omega.{arith}
use borrow.Author.Tests.{eq-eqb, ne_eqb, le-leb, le-ltb}
use lib.ListN.{length, get_or, take, drop, length-append, length-map}
use lib.Seq.{take_at, drop-append-add}
use Rattle.rules.specs.Block.{Block, black, blacks, sizes_by, colours_by, blocks, illegal, Legal, legal_none, legal_block}
use Rattle.rules.specs.Board.{row, column, On}
use Rattle.rules.specs.Card.{Card, card_of, black_card, sum, part, clue_of, lines_from, gathered, count_of}
use Rattle.rules.specs.CardRules.{counts_fit, crowded, card_rules}
use Rattle.rules.specs.Refusal.{verdict, side_rules, memo_size, stack_size}
use Rattle.rules.specs.declared.LinePosition.{LinePosition}
use Rattle.rules.specs.declared.LinePosition.TheVariants.{Row, Column}
use Rattle.rules.proofs.Blocks.{blocks_back, sizes_back, legal_test}
use Rattle.rules.proofs.Searching.{none_above}
use Rattle.rules.proofs.Verdicts.{sides_fine}

-- ---- lists of lines

lines_at : (f : ℕ → List Block) (k n i : ℕ) → i < n → get_or (lines_from f k n) i [] ≡ f (k + i)
lines_at f k zero i h = absurd (omega arith)
lines_at f k (suc n) zero h = ap f (sym (add-zero k))
lines_at f k (suc n) (suc i) h = lines_at f (suc k) n i (omega arith) ∙ ap f (omega arith)

lines_length : (f : ℕ → List Block) (k n : ℕ) → length (lines_from f k n) ≡ n
lines_length f k zero = refl
lines_length f k (suc n) = ap suc (lines_length f (suc k) n)

sizes_length : (bs : List Block) → length (sizes_by bs) ≡ length bs
sizes_length bs = length-map bs (λ b. b.size)

colours_length : (bs : List Block) → length (colours_by bs) ≡ length bs
colours_length bs = length-map bs (λ b. b.colour)

counts_length : (L : List (List Block)) → length (gathered count_of L) ≡ length L
counts_length [] = refl
counts_length (bs ∷ L) = ap suc (counts_length L)

counts_at : (L : List (List Block)) (i : ℕ) → get_or (gathered count_of L) i 0 ≡ length (get_or L i [])
counts_at [] i = refl
counts_at (bs ∷ L) zero = refl
counts_at (bs ∷ L) (suc i) = counts_at L i

-- what gives as many entries as a line has blocks gives as many in all as the counts say
pub counts_sum : (F : List Block → List ℕ) → ((bs : List Block) → length (F bs) ≡ length bs) → (L : List (List Block))
    → length (gathered F L) ≡ sum (gathered count_of L)
counts_sum F e [] = refl
counts_sum F e (bs ∷ L) = omega (arith, counts_sum F e L, length-append (F bs) (gathered F L), e bs)

part_at : (F : List Block → List ℕ) → ((bs : List Block) → length (F bs) ≡ length bs) → (L : List (List Block)) (i : ℕ) → i < length L
    → part (gathered count_of L) i (gathered F L) ≡ F (get_or L i [])
part_at F e [] i h = absurd (omega arith)
part_at F e (bs ∷ L) zero h = take_at (F bs) (gathered F L) (length bs) (e bs)
part_at F e (bs ∷ L) (suc i) h =
    ap (λ n. take (get_or (gathered count_of L) i 0) (drop (n + sum (take i (gathered count_of L))) (F bs ++ gathered F L))) (sym (e bs))
    ∙ ap (take (get_or (gathered count_of L) i 0)) (drop-append-add (F bs) (gathered F L) (sum (take i (gathered count_of L))))
    ∙ part_at F e L i (omega arith)

legal_more : {bs : List Block} (ns cs : List ℕ) → Legal bs → Legal (blocks ns cs) → Legal (blocks (sizes_by bs ++ ns) (colours_by bs ++ cs))
legal_more ns cs legal_none o = o
legal_more ns cs (legal_block s c d p) o = legal_block s c d (legal_more ns cs p o)

legal_all : (L : List (List Block)) → ((i : ℕ) → i < length L → Legal (get_or L i [])) → Legal (blocks (gathered sizes_by L) (gathered colours_by L))
legal_all [] o = legal_none
legal_all (bs ∷ L) o = legal_more (gathered sizes_by L) (gathered colours_by L) (o 0 (omega arith)) (legal_all L (λ i h. o (suc i) (omega arith)))

-- ---- one direction: the n lines of the clues f

module _ (f : ℕ → List Block) (n : ℕ) where
  abbrev lines : List (List Block)
  lines = lines_from f 0 n

  line_at : (i : ℕ) → i < n → get_or lines i [] ≡ f i
  line_at i h = lines_at f 0 n i h ∙ ap f (omega arith)

  -- what holds of the clues of n lines holds of each of the list
  each : (P : List Block → Type 0) → ((i : ℕ) → i < n → P (f i)) → (i : ℕ) → i < length lines → P (get_or lines i [])
  each P o i h = let q : i < n = omega (arith, lines_length f 0 n) in subst P (sym (line_at i q)) (o i q)

  -- a count a line
  pub lines_counted : length (gathered count_of lines) ≡ n
  lines_counted = counts_length lines ∙ lines_length f 0 n

  -- a colour a size
  pub lines_paired : length (gathered colours_by lines) ≡ length (gathered sizes_by lines)
  lines_paired = counts_sum colours_by colours_length lines ∙ sym (counts_sum sizes_by sizes_length lines)

  -- line i's part of the lists
  line_part_lem : (i : ℕ) → i < n
      → blocks (part (gathered count_of lines) i (gathered sizes_by lines)) (part (gathered count_of lines) i (gathered colours_by lines)) ≡ f i
  line_part_lem i h =
      let q = lines_length f 0 n in
      rw (part_at sizes_by sizes_length lines i (omega arith), part_at colours_by colours_length lines i (omega arith), line_at i h) (blocks_back (f i))

  direction_fit : counts_fit n (gathered count_of lines) (length (gathered sizes_by lines)) (length (gathered colours_by lines)) ≡ true
  direction_fit = rw (eq-eqb _ _ lines_counted, eq-eqb _ _ (sym (counts_sum sizes_by sizes_length lines)), eq-eqb _ _ lines_paired)

  direction_few : ((i : ℕ) → i < n → length (f i) ≤ 64) → crowded (gathered count_of lines) ≡ false
  direction_few o =
      none_above 64 (gathered count_of lines)
      (λ i h. omega (arith, counts_at lines i, each (λ bs. length bs ≤ 64) o i (omega (arith, counts_length lines))))

  direction_legal : ((i : ℕ) → i < n → Legal (f i)) → illegal (blocks (gathered sizes_by lines) (gathered colours_by lines)) ≡ false
  direction_legal o = legal_test (legal_all lines (each Legal o))

-- ---- both directions: the card of the clues f of a board's lines

module _ (w h : ℕ) (f : LinePosition → List Block) where
  abbrev pub row_lines : List (List Block)
  row_lines = lines_from (λ y. f (row y)) 0 h

  abbrev pub column_lines : List (List Block)
  column_lines = lines_from (λ x. f (column x)) 0 w

  abbrev pub gathered_card : Card
  gathered_card =
      card_of (gathered count_of row_lines) (gathered sizes_by row_lines) (gathered colours_by row_lines) (gathered count_of column_lines)
      (gathered sizes_by column_lines) (gathered colours_by column_lines)

  module _ {c : Card} (is : c ≡ gathered_card) where
    -- each line's clue is its part of the card
    pub gathered_clue : (l : LinePosition) → On w h l → clue_of c l ≡ f l
    gathered_clue l o = ap (λ k. clue_of k l) is ∙ go l o
      where
        go : (l : LinePosition) → On w h l → clue_of gathered_card l ≡ f l
        go (Row y) p = line_part_lem (λ k. f (row k)) h y.0 p
        go (Column x) p = line_part_lem (λ k. f (column k)) w x.0 p

    -- legal clues of at most 64 blocks each break no rule of a card
    pub gathered_fine : (cells memo stack : ℕ) → verdict (side_rules w h) ≡ Ok tt → cells ≡ w * h → memo_size ≤ memo → stack_size ≤ stack
        → ((l : LinePosition) → On w h l → Legal (f l)) → ((l : LinePosition) → On w h l → length (f l) ≤ 64)
        → verdict (card_rules w h cells c memo stack) ≡ Ok tt
    gathered_fine cells memo stack sides e m s legal few =
        let q = sides_fine w h sides in
        ap (λ k. verdict (card_rules w h cells k memo stack)) is
        ∙ rw (
          ne_eqb w 0 (λ z. omega (arith, q.0)),
          le-ltb 64 w q.1,
          ne_eqb h 0 (λ z. omega (arith, q.2)),
          le-ltb 64 h q.3,
          eq-eqb cells (w * h) e,
          le-leb memo_size memo m,
          le-leb stack_size stack s,
          direction_fit (λ y. f (row y)) h,
          direction_fit (λ x. f (column x)) w,
          direction_few (λ y. f (row y)) h (λ y o. few (row y) o),
          direction_few (λ x. f (column x)) w (λ x o. few (column x) o),
          direction_legal (λ y. f (row y)) h (λ y o. legal (row y) o),
          direction_legal (λ x. f (column x)) w (λ x o. legal (column x) o),
        )

-- ---- the same of sizes alone: every block is black

gathered_same : (F G : List Block → List ℕ) (f g : ℕ → List Block) → ((k : ℕ) → F (f k) ≡ G (g k)) → (k n : ℕ)
    → gathered F (lines_from f k n) ≡ gathered G (lines_from g k n)
gathered_same F G f g e k zero = refl
gathered_same F G f g e k (suc n) = ap₂ (λ (x y : List ℕ). x ++ y) (e k) (gathered_same F G f g e (suc k) n)

gathered_blacks : (L : List (List Block)) → blacks (gathered sizes_by L) ≡ gathered (λ bs. blacks (sizes_by bs)) L
gathered_blacks [] = refl
gathered_blacks (bs ∷ L) =
    map-append (λ n. 2) (sizes_by bs) (gathered sizes_by L) ∙ ap (λ l. blacks (sizes_by bs) ++ l) (gathered_blacks L)

-- the blocks of these sizes, black
abbrev pub in_black : List Block → List Block
in_black bs = map black (sizes_by bs)

pub black_length : (bs : List Block) → length (in_black bs) ≡ length bs
black_length bs = length-map (sizes_by bs) black ∙ sizes_length bs

module _ (f : ℕ → List Block) (n : ℕ) where
  counts_black : gathered count_of (lines_from f 0 n) ≡ gathered count_of (lines_from (λ k. in_black (f k)) 0 n)
  counts_black = gathered_same count_of count_of f (λ k. in_black (f k)) (λ k. ap (λ m. m ∷ []) (sym (black_length (f k)))) 0 n

  sizes_black : gathered sizes_by (lines_from f 0 n) ≡ gathered sizes_by (lines_from (λ k. in_black (f k)) 0 n)
  sizes_black = gathered_same sizes_by sizes_by f (λ k. in_black (f k)) (λ k. sym (sizes_back (sizes_by (f k)))) 0 n

  colours_black : blacks (gathered sizes_by (lines_from f 0 n)) ≡ gathered colours_by (lines_from (λ k. in_black (f k)) 0 n)
  colours_black =
      gathered_blacks (lines_from f 0 n)
      ∙ gathered_same (λ bs. blacks (sizes_by bs)) colours_by f (λ k. in_black (f k)) (λ k. sym (map-map (λ b. b.colour) black (sizes_by (f k)))) 0 n

-- the card of these counts and sizes holds the lines' clues with every block black
pub black_gathered : (w h : ℕ) (f : LinePosition → List Block)
    → black_card (gathered count_of (row_lines w h f)) (gathered sizes_by (row_lines w h f)) (gathered count_of (column_lines w h f))
    (gathered sizes_by (column_lines w h f))
    ≡ gathered_card w h (λ l. in_black (f l))
black_gathered w h f =
    rw (
      colours_black (λ y. f (row y)) h,
      colours_black (λ x. f (column x)) w,
      counts_black (λ y. f (row y)) h,
      counts_black (λ x. f (column x)) w,
      sizes_black (λ y. f (row y)) h,
      sizes_black (λ x. f (column x)) w,
    )
