-- The clue of each placement of legal blocks, read with blank 1, is those blocks again, and every binary line is a placement of its own
-- clue: from the statements of the calls alone.
use Rattle.std.specs.Prelude.{Ok, Result}
use Rattle.rules.proofs.Verdicts.{append_fine}
use Prim.Native.Nat.{◌≤◌, ℕ, zero, suc, ◌<◌}
use borrow.Author.Tests.{ne_eqb, le-leb, le-ltb}
use lib.Dec.{leb}
use lib.ListN.{length, take, drop, replicate}
use lib.Seq.{take_at}
use mathlib.Core.Bool.{Bool, true, false, ◌&&◌}
use mathlib.Core.List.{List, [], ◌∷◌, ◌++◌, map, map-append, cons≢nil, head-eq_of_cons-eq, tail-eq_of_cons-eq}
use mathlib.Core.Path.{◌≡◌, refl, ap, ap₂, ◌∙◌}
use native.Mathlib.Omega.{arith}
use Rattle.clue.specs.Calls.{room_rules, code_rules, ColouredClue, BinaryClue}
use Rattle.rules.specs.declared.Refusal.{Refusal}
use Rattle.rules.proofs.Clues.{placement_clue}
use Rattle.rules.proofs.Codes.{proper_codes}
use Rattle.rules.proofs.Placements.{placement_proper}
use Rattle.rules.proofs.Readings.{black_only, black_placement}
use Rattle.rules.proofs.Replies.{list_reply_one}
use Rattle.rules.specs.Block.{Block, black, sizes_by, colours_by, Legal}
use Rattle.rules.specs.Clue.{clue, bad_code_of, read_binary, black_white, black_clue}
use Rattle.rules.specs.Placement.{gap, pieces, Laid, Placement, end, blank, piece}
use Rattle.rules.specs.Refusal.{verdict, length_rules, written}

length_ok : (n : ℕ) → 0 < n → n ≤ 64 → verdict (length_rules n) ≡ Ok tt
length_ok n a b = rw (ne_eqb n 0 (λ e. omega arith), le-ltb 64 n b)

-- no rule of a line is broken
line_ok : (n : ℕ) (t u : Bool) → 0 < n → n ≤ 64 → t ≡ true → u ≡ false → verdict (length_rules n ++ code_rules t u) ≡ Ok tt
line_ok n t u a b x y = append_fine (length_rules n) (code_rules t u) (length_ok n a b) ∙ rw (x, y)

pub placement_again : {bs : List Block} {l sizes colours sizes' colours' : List ℕ} {r : Result ℕ Refusal} → Legal bs → Placement bs (length l) l
    → 0 < length l → length l ≤ 64 → length l ≤ length sizes → length l ≤ length colours
    → ColouredClue 1 l sizes colours r sizes' colours'
    → (r ≡ Ok (length bs)) × (sizes' ≡ written (sizes_by bs) sizes) × (colours' ≡ written (colours_by bs) colours)
placement_again {bs} {l} {sizes} {colours} {r = r} o d a b s t c =
    let e = placement_clue o d in
    let v = ok in
    (list_reply_one r (Ok (length bs)) (c.answers ∙ rw (v, e)), c.size_list ∙ rw (v, e), c.colour_list ∙ rw (v, e))
  where
    ok : verdict (length_rules (length l) ++ code_rules (leb (length l) (length sizes) && leb (length l) (length colours)) (bad_code_of 1 l)) ≡ Ok tt
    ok =
        line_ok (length l) (leb (length l) (length sizes) && leb (length l) (length colours)) (bad_code_of 1 l) a b
        (rw (le-leb (length l) (length sizes) s, le-leb (length l) (length colours) t)) (proper_codes l (placement_proper o l d))

blacks_sizes : (ns : List ℕ) → sizes_by (map black ns) ≡ ns
blacks_sizes [] = refl
blacks_sizes (n ∷ ns) = ap (λ l. n ∷ l) (blacks_sizes ns)

-- a binary line of any codes, with enough room, is answered with 0: its clue is written
binary_answered : (e : ℕ) (l : List ℕ) {sizes sizes' : List ℕ} {r : Result ℕ Refusal} → 0 < length l → length l ≤ 64 → length l ≤ length sizes
    → BinaryClue e l sizes r sizes'
    → (r ≡ Ok (length (sizes_by (black_clue e l)))) × (sizes' ≡ written (sizes_by (black_clue e l)) sizes)
binary_answered e l {sizes} {r = r} a b s c = (list_reply_one r (Ok _) (c.answers ∙ rw ok), c.leaves ∙ rw ok)
  where
    ok : verdict (length_rules (length l) ++ room_rules (leb (length l) (length sizes))) ≡ Ok tt
    ok =
        append_fine (length_rules (length l)) (room_rules (leb (length l) (length sizes))) (length_ok (length l) a b)
        ∙ rw (le-leb (length l) (length sizes) s)

-- a placement of black blocks is black and white as it stands
laid_black : (ns : List ℕ) {ps : List (List ℕ)} {l : List ℕ} → Laid ps l → ps ≡ pieces (map black ns) → black_white 1 l ≡ l
laid_black ns end e = refl
laid_black ns (blank d) e = ap (λ (l : List ℕ). 1 ∷ l) (laid_black ns d e)
laid_black [] (piece d) e = absurd (cons≢nil e)
laid_black (n ∷ ns) (piece {p = p} {l = l} d) e =
    map-append (read_binary 1) p l ∙ ap₂ (λ (a b : List ℕ). a ++ b) first (laid_black ns d (tail-eq_of_cons-eq e))
  where
    blanks : (ms : List ℕ) → black_white 1 (gap 2 (map black ms)) ≡ gap 2 (map black ms)
    blanks [] = refl
    blanks (m ∷ ms) = refl

    over : (k : ℕ) (g : List ℕ) → black_white 1 g ≡ g → black_white 1 (replicate k 2 ++ g) ≡ replicate k 2 ++ g
    over zero g q = q
    over (suc k) g q = ap (λ (l : List ℕ). 2 ∷ l) (over k g q)

    first : black_white 1 p ≡ p
    first = rw (head-eq_of_cons-eq e) (over n (gap 2 (map black ns)) (blanks ns))

pub placement_again_binary : (ns : List ℕ) {l sizes sizes' : List ℕ} {r : Result ℕ Refusal} → Legal (map black ns) → Placement (map black ns) (length l) l
    → 0 < length l → length l ≤ 64 → length l ≤ length sizes → BinaryClue 1 l sizes r sizes' → (r ≡ Ok (length ns)) × (sizes' ≡ written ns sizes)
placement_again_binary ns {l} {sizes} o d a b s c =
    let e : sizes_by (black_clue 1 l) ≡ ns =
    ap (λ k. sizes_by (clue 1 k)) (laid_black ns d.laid refl) ∙ ap sizes_by (placement_clue o d) ∙ blacks_sizes ns in
    let q = binary_answered 1 l a b s c in
    (q.0 ∙ ap (λ k. Ok (length k)) e, q.1 ∙ ap (λ k. written k sizes) e)

-- ---- every binary line, whatever its codes and its blank code, is a placement of its own clue, as the call left it

-- the call is done, and the line as read is a placement of the clue that it left
pub record OwnClue (e : ℕ) (l : List ℕ) (r : Result ℕ Refusal) (sizes' : List ℕ) : Type 0 where
  pub count : ℕ
  pub done : r ≡ Ok count
  pub placed : Placement (map black (take count sizes')) (length l) (black_white e l)

pub own_clue : (e : ℕ) (l : List ℕ) {sizes sizes' : List ℕ} {r : Result ℕ Refusal} → 0 < length l → length l ≤ 64 → length l ≤ length sizes
    → BinaryClue e l sizes r sizes' → OwnClue e l r sizes'
own_clue e l {sizes} a b s c =
    let ns = sizes_by (black_clue e l) in
    let q = binary_answered e l a b s c in
    record {
      count = length ns;
      done = q.0;
      placed = rw (q.1, take_at ns (drop (length ns) sizes) (length ns) refl, black_only e l) (black_placement e l);
    }
