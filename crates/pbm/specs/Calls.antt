-- What each public call of this crate promises. Reading: 1, 2, 11. Writing: 1, 2, 9.
use Rattle.std.specs.Prelude.{◌≡◌, List, [], ◌∷◌, ℕ, length, Result, Ok, Err}
use Rattle.std.proofs.Math.Option.{Option}
use Rattle.rules.specs.Pbm.{Heading, heading, read_rules, sides_read, codes_read, pbm_text, write_rules}
use Rattle.rules.specs.Refusal.{refusal_number_of, verdict, reply, left, Writes}
use Rattle.rules.specs.declared.Refusal.{Refusal}
use Rattle.pbm.specs.declared.Sides.{Sides}

-- the number of an answer, and its values: the width and the height
abbrev pub pbm_reply : Result Sides Refusal → List ℕ
pbm_reply (Ok s) = 0 ∷ s.width ∷ s.height ∷ []
pbm_reply (Err w) = refusal_number_of w ∷ []

-- the answer, and the list of codes after the call, by the heading that was found
pub record Reads (found : Option Heading) (codes : List ℕ) (r : Result Sides Refusal) (codes' : List ℕ) : Type 0 where
  pub answers : pbm_reply r ≡ reply (verdict (read_rules (length codes) found)) (sides_read found)
  pub leaves : codes' ≡ left (verdict (read_rules (length codes) found)) (codes_read found) codes

-- the picture of a text
abbrev pub ReadsPbm : List ℕ → List ℕ → Result Sides Refusal → List ℕ → Type 0
ReadsPbm text codes = Reads (heading text) codes

-- the text of a picture of w by h codes b
abbrev pub WritesPbm : ℕ → ℕ → List ℕ → List ℕ → Result ℕ Refusal → List ℕ → Type 0
WritesPbm w h b text = Writes (write_rules w h b (length text)) (pbm_text w h b) text
