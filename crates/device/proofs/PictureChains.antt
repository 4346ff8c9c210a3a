-- From call to call with pictures: what `sp_write_pbm` wrote is read back by `sp_read_pbm`, and a picture that was read goes on to
-- clue generation: with enough room the call for its clues, with blank 1, answers 0.
use Rattle.std.specs.Prelude.{Result, Ok, Err}
use mathlib.Core.Path.{◌≡◌, refl, sym, ap, ◌∙◌}
use mathlib.Core.Bool.{true, false, ◌&&◌}
use mathlib.Core.List.{List, ◌∷◌}
use Prim.Native.Nat.{ℕ, ◌*◌, ◌≤◌}
use borrow.Author.Tests.{le-leb}
use lib.Dec.{leb}
use lib.ListN.{length, take}
use Rattle.rules.specs.Block.{Block}
use Rattle.rules.specs.Clue.{bad_code_of}
use Rattle.rules.specs.Refusal.{Rule, verdict, side_rules, written}
use Rattle.rules.specs.declared.Refusal.{Refusal}
use Rattle.rules.proofs.Replies.{head_one}
use Rattle.rules.proofs.Verdicts.{append_fine, sides_good}
use Rattle.rules.proofs.PbmRounds.{drawn_codes, codes_coloured}
use Rattle.clue.specs.Calls.{code_rules}
use Rattle.picture.specs.Calls.{clues_reply, grid_fits, grid_rules, GridLists, BinaryClues, ColouredClues}
use Rattle.picture.specs.declared.Totals.{Totals}
use Rattle.picture.proofs.Fitted.{Fitted, fits_all}
use Rattle.picture.proofs.Pictures.{binary_fine}
use Rattle.pbm.specs.Calls.{ReadsPbm, WritesPbm}
use Rattle.pbm.specs.declared.Sides.{Sides}
use Rattle.pbm.proofs.Meaning.{PictureRead, read_picture_lem, take_written, written_form, written_read}
use Rattle.replies.specs.Replies.{Told, tell_count_of, tell_clues_of, tell_pbm_of}
use Rattle.device.proofs.Zero.{told_zero}
use Rattle.replies.specs.declared.count.CountReply.{CountReply}
use Rattle.replies.specs.declared.clues.CluesReply.{CluesReply}
use Rattle.replies.specs.declared.pictures.PbmReply.{PbmReply}
use Rattle.rules.specs.Pbm.{pbm_text}

-- ---- `sp_write_pbm`, then `sp_read_pbm`

-- with 0 the statement holds of the answer that has the struct's count
count_done : {Says : Result ℕ Refusal → Type 0} {x : CountReply} → Told tell_count_of Says x → x.number ≡ 0 → Says (Ok x.count)
count_done a z = let t = told_zero (λ k. k.number) (λ w. refl) a z in rw t.1 t.2

module _ (w h : ℕ) (b : List ℕ) {text text' : List ℕ} {x : CountReply} (a : Told tell_count_of (λ r. WritesPbm w h b text r text') x)
    (z : x.number ≡ 0) where
  -- the bytes that were written have the one fixed form
  pub write_form : take x.count text' ≡ pbm_text w h b
  write_form = written_form w h b (count_done a z)

  -- they are read as the picture, with its sides
  pub write_then_read : {codes codes' : List ℕ} {y : PbmReply} → Told tell_pbm_of (λ r. ReadsPbm (take x.count text') codes r codes') y
      → w * h ≤ length codes → (y ≡ record { number = 0; width = w; height = h }) × (codes' ≡ written b codes)
  write_then_read c q = let t = written_read w h b (count_done a z) c.says q in (c.tells ∙ ap tell_pbm_of t.0, t.1)

-- ---- `sp_read_pbm`, then `sp_clues` or `sp_binary_clues`

-- with 0 the statement holds of the answer that has the struct's sides
pbm_done : {Says : Result Sides Refusal → Type 0} {x : PbmReply} → Told tell_pbm_of Says x → x.number ≡ 0
    → Says (Ok (record { width = x.width; height = x.height }))
pbm_done a z = let t = told_zero (λ k. k.number) (λ w. refl) a z in rw t.1 t.2

-- a call for clues that breaks no rule answers 0
clues_zero : {rules : List Rule} {rows columns : List (List Block)} {rc rs cc cs rc' rs' cc' cs' : List ℕ} {r : Result Totals Refusal} {y : CluesReply}
    → GridLists rules rows columns rc rs cc cs r rc' rs' cc' cs' → verdict rules ≡ Ok tt → y ≡ tell_clues_of r → y.number ≡ 0
clues_zero {r = r} g v e = ap (λ k. k.number) e ∙ go r (rw v at g.answers)
  where
    go : (s : Result Totals Refusal) {l : List ℕ} → clues_reply s ≡ 0 ∷ l → (tell_clues_of s).number ≡ 0
    go (Ok n) q = refl
    go (Err w) q = head_one q

module _ (text : List ℕ) {codes codes' : List ℕ} {x : PbmReply} (a : Told tell_pbm_of (λ r. ReadsPbm text codes r codes') x) (z : x.number ≡ 0) where
  -- the codes that were read, as the call left them
  abbrev codes_in : List ℕ
  codes_in = take (x.width * x.height) codes'

  read : PictureRead text codes x.width x.height codes'
  read = read_picture_lem text (pbm_done a z)

  codes_read_lem : codes_in ≡ read.picture
  codes_read_lem =
      ap (λ l. take (x.width * x.height) l) read.leaves
      ∙ ap (λ n. take n (written read.picture codes)) (sym read.text_of.drawn.count) ∙ take_written read.picture codes

  size : length codes_in ≡ x.width * x.height
  size = ap length codes_read_lem ∙ read.text_of.drawn.count

  coloured : bad_code_of 1 codes_in ≡ false
  coloured = ap (bad_code_of 1) codes_read_lem ∙ codes_coloured read.picture (drawn_codes read.text_of.drawn)

  grid_fine : {t u : _} → t ≡ true → u ≡ false → verdict (grid_rules x.width x.height t u) ≡ Ok tt
  grid_fine {t} {u} p q =
      append_fine (side_rules x.width x.height) (code_rules t u) (sides_good x.width x.height read.sides) ∙ rw (p, q)

  module _ (rc rs cc cs : List ℕ) (p : x.height ≤ length rc) (q : x.width * x.height ≤ length rs) (s : x.width ≤ length cc)
      (t : x.width * x.height ≤ length cs) where
    fitted : Fitted x.width x.height (length codes_in) (length rc) (length rs) (length cc) (length cs)
    fitted = record { exact = size; row_counts = p; row_sizes = q; column_counts = s; column_sizes = t }

    pub read_then_binary_clues : {rc' rs' cc' cs' : List ℕ} {y : CluesReply}
        → Told tell_clues_of (λ r. BinaryClues 1 x.width x.height codes_in rc rs cc cs r rc' rs' cc' cs') y → y.number ≡ 0
    read_then_binary_clues c =
        clues_zero c.says (binary_fine x.width x.height codes_in rc rs cc cs read.sides fitted) c.tells

    pub read_then_clues : {rt ct rc' rs' rt' cc' cs' ct' : List ℕ} {y : CluesReply} → x.width * x.height ≤ length rt
        → x.width * x.height ≤ length ct
        → Told tell_clues_of (λ r. ColouredClues 1 x.width x.height codes_in rc rs rt cc cs ct r rc' rs' rt' cc' cs' ct') y → y.number ≡ 0
    read_then_clues {rt} {ct} m n c = clues_zero c.says.lists (grid_fine all coloured) c.tells
      where
        all : (grid_fits x.width x.height (length codes_in) (length rc) (length rs) (length cc) (length cs)
            && (leb (x.width * x.height) (length rt) && leb (x.width * x.height) (length ct))) ≡ true
        all = rw (fits_all fitted, le-leb (x.width * x.height) (length rt) m, le-leb (x.width * x.height) (length ct) n)
