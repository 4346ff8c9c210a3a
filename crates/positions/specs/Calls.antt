-- What each public call of this crate promises of a line of length n: b is `coloured sizes colours` or `binary sizes`. 1, 2, 3, 4, 10.
use Rattle.std.specs.Prelude.{◌≡◌, Bool, true, ◌&&◌, List, [], ◌∷◌, ◌++◌, map, ℕ, length, Err, Ok, Result}
use Rattle.rules.specs.Block.{Lent}
use Rattle.rules.specs.Packing.{positions}
use Rattle.rules.specs.Ranges.{range_colours, range_start, range_end}
use Rattle.rules.specs.Refusal.{refusal_number_of, Rule, verdict, length_rules, roomy, block_rules, space_rules, reply, list_reply, left}
use Rattle.rules.specs.declared.Refusal.{Refusal}

-- the length, then the blocks, then whether they fit
abbrev pub range_rules : ℕ → Lent → Bool → List Rule
range_rules n b fits = length_rules n ++ block_rules b fits ++ space_rules n b

-- the number of an answer, and its value
abbrev pub number_reply : Result ℕ Refusal → List ℕ
number_reply (Ok n) = 0 ∷ n ∷ []
number_reply (Err w) = refusal_number_of w ∷ []

-- the length less the minimal space, plus 1
pub record PositionsNumber (n : ℕ) (b : Lent) (r : Result ℕ Refusal) : Type 0 where
  pub answers : number_reply r ≡ reply (verdict (range_rules n b true)) (positions n b.list ∷ [])

-- each colour once, by first appearance, with the first cell of its range and the cell after the last
pub record Ranges (rules : List Rule) (n : ℕ) (b : Lent) (colours from to : List ℕ) (r : Result ℕ Refusal) (colours' from' to' : List ℕ) : Type 0 where
  pub answers : list_reply r ≡ reply (verdict rules) (length (range_colours b.list) ∷ [])
  pub colour_list : colours' ≡ left (verdict rules) (range_colours b.list) colours
  pub from_list : from' ≡ left (verdict rules) (map (range_start b.list) (range_colours b.list)) from
  pub to_list : to' ≡ left (verdict rules) (map (range_end b.list n) (range_colours b.list)) to

-- each of the three lists needs room
abbrev pub ColorRanges : ℕ → Lent → List ℕ → List ℕ → List ℕ → Result ℕ Refusal → List ℕ → List ℕ → List ℕ → Type 0
ColorRanges n b colours from to = Ranges (range_rules n b (roomy b colours && (roomy b from && roomy b to))) n b colours from to
