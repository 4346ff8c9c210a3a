-- What the calls' own answers mean: a picture that was read has that text, and the text of a picture is read as it; every refusal is told at
-- its stage; what was written has the fixed form, and reading it gives the picture back.
use Rattle.std.specs.Prelude.{Result, Err, Ok}
use Rattle.rules.specs.Refusal.{GoodSides, verdict, reply, left, written, Verdict}
use mathlib.Core.Path.{◌≡◌, refl, sym, ap, subst, ◌∙◌}
use mathlib.Core.List.{List, [], ◌∷◌}
use Prim.Native.Nat.{ℕ, ◌*◌, ◌≤◌}
use native.Mathlib.Omega.{arith}
use lib.ListN.{length, take, drop}
use lib.Seq.{take-append_seam}
use Rattle.rules.specs.Pbm.{TextOf, Stage, a_picture, heading, read_rules, sides_read, codes_read, pbm_text, write_rules}
use Rattle.rules.specs.declared.Refusal.{Refusal}
use Rattle.rules.proofs.Replies.{number_one, by_checking, head_one, done_count}
use Rattle.rules.proofs.PbmTexts.{stage_computed, stage_rules, text_computed}
use Rattle.rules.proofs.PbmRounds.{written_text}
use Rattle.pbm.specs.Calls.{pbm_reply, ReadsPbm, WritesPbm}
use Rattle.pbm.specs.declared.Sides.{Sides}
use Rattle.pbm.proofs.Told.{writing_fine}
use Rattle.pbm.proofs.Unique.{pbm_reply_one}

-- a list's first entries, where they were written
pub take_written : (vs out : List ℕ) → take (length vs) (written vs out) ≡ vs
take_written vs out = take-append_seam vs (drop (length vs) out)

-- ---- reading

-- a done call was refused by no rule, and told the sides
sides_told : (v : Verdict) {w h : ℕ} {l : List ℕ} → pbm_reply (Ok (record { width = w; height = h })) ≡ reply v l → (v ≡ Ok tt) × (w ∷ h ∷ [] ≡ l)
sides_told (Ok _) e = (refl, cc)
sides_told (Err u) e = let n = ap length e in absurd (omega arith)

-- a refused one was refused by that rule
refusal_told : (v : Verdict) (l : List ℕ) {u : Refusal} → pbm_reply (Err u) ≡ reply v l → v ≡ Err u
refusal_told (Ok _) l {u} e = absurd ((by_checking u).0 (head_one e))
refusal_told (Err w) l {u} e = ap (λ x. Err x) (number_one w u (sym (head_one e)))

-- what a picture's text, its sides and the codes after a call that read it have to do with each other
pub record PictureRead (text codes : List ℕ) (w h : ℕ) (codes' : List ℕ) : Type 0 where
  pub picture : List ℕ
  pub text_of : TextOf w h picture text
  pub sides : GoodSides w h
  pub room : w * h ≤ length codes
  pub leaves : codes' ≡ written picture codes

module _ (text : List ℕ) {codes codes' : List ℕ} where
  -- with 0 the text is one of the picture that the call left
  pub read_picture_lem : {w h : ℕ} → ReadsPbm text codes (Ok (record { width = w; height = h })) codes' → PictureRead text codes w h codes'
  read_picture_lem {w} {h} a =
      let p = sides_told (verdict (read_rules (length codes) (heading text))) a.answers in
      go (subst (λ (v : Verdict). Stage (length codes) text v) p.0 (stage_rules (length codes) text)) p.1
      (a.leaves ∙ ap (λ v. left v (codes_read (heading text)) codes) p.0)
    where
      go : Stage (length codes) text (Ok tt) → w ∷ h ∷ [] ≡ sides_read (heading text) → codes' ≡ written (codes_read (heading text)) codes
          → PictureRead text codes w h codes'
      go (a_picture {w = x} {h = y} {codes = vs} t g r) e l =
          let c = text_computed t in
          let s : w ∷ h ∷ [] ≡ x ∷ y ∷ [] = e ∙ c.0 in
          let wide : x ≡ w = cc in
          let high : y ≡ h = cc in
          record {
            picture = vs;
            text_of = rw (wide, high) at t;
            sides = rw (wide, high) at g;
            room = rw (wide, high) at r;
            leaves = l ∙ ap (λ k. written k codes) c.1;
          }

  -- and any text of a picture that fits is read as it
  pub picture_read : {w h : ℕ} {vs : List ℕ} {r : Result Sides Refusal} → TextOf w h vs text → GoodSides w h → w * h ≤ length codes → ReadsPbm text codes r codes'
      → (r ≡ Ok (record { width = w; height = h })) × (codes' ≡ written vs codes)
  picture_read {w} {h} {r = r} t g q a =
      let v = stage_computed (a_picture t g q) in
      let c = text_computed t in (
        pbm_reply_one r (Ok (record { width = w; height = h })) (a.answers ∙ rw (v, c.0)),
        a.leaves ∙ rw (v, c.1),
      )

  -- a refusal is told at its stage, and nowhere else
  pub stage_read : {u : Refusal} {r : Result Sides Refusal} → Stage (length codes) text (Err u) → ReadsPbm text codes r codes'
      → (r ≡ Err u) × (codes' ≡ codes)
  stage_read {u} {r} s a = let v = stage_computed s in (pbm_reply_one r (Err u) (a.answers ∙ rw v), a.leaves ∙ rw v)

  pub read_stage : {u : Refusal} → ReadsPbm text codes (Err u) codes' → Stage (length codes) text (Err u)
  read_stage a =
      subst (λ (v : Verdict). Stage (length codes) text v) (refusal_told (verdict (read_rules (length codes) (heading text))) (sides_read (heading text)) a.answers)
      (stage_rules (length codes) text)

-- ---- writing

module _ (w h : ℕ) (b : List ℕ) {text : List ℕ} {n : ℕ} {text' : List ℕ} (a : WritesPbm w h b text (Ok n) text') where
  fine : verdict (write_rules w h b (length text)) ≡ Ok tt
  fine = (done_count (verdict (write_rules w h b (length text))) a.answers).0

  -- with 0 what was written has the one fixed form
  pub written_form : take n text' ≡ pbm_text w h b
  written_form =
      let c = (done_count (verdict (write_rules w h b (length text))) a.answers).1 in
      ap (λ l. take n l) (a.leaves ∙ rw fine) ∙ ap (λ k. take k (written (pbm_text w h b) text)) c ∙ take_written (pbm_text w h b) text

  -- and reading it gives the picture back, with its sides
  pub written_read : {codes codes' : List ℕ} {r : Result Sides Refusal} → ReadsPbm (take n text') codes r codes' → w * h ≤ length codes
      → (r ≡ Ok (record { width = w; height = h })) × (codes' ≡ written b codes)
  written_read {codes} {codes'} {r} c q =
      let f = writing_fine w h b (length text) fine in
      picture_read (pbm_text w h b) (written_text w h b f.sides f.size f.inked) f.sides q
      (subst (λ (t : List ℕ). ReadsPbm t codes r codes') written_form c)
