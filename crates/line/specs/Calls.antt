-- What the two public calls of this crate promise.
use Rattle.std.specs.Prelude.{◌≡◌, ⊤, Bool, ◌&&◌, List, ◌++◌, ℕ, eqb, leb, length, Result, Err, Ok}
use Rattle.rules.specs.Refusal.{refusal_number_of, Rule, verdict, length_rules, block_rules, cell_rules, memo_size, Verdict}
use Rattle.std.proofs.Math.Option.{Option, none, some}
use Rattle.rules.specs.Block.{Lent, binary}
use Rattle.rules.specs.Binary.{line_answer, binary_answer}
use Rattle.rules.specs.declared.Refusal.{Refusal}
use Rattle.line.specs.declared.LineError.{LineError}
use Rattle.line.specs.declared.LineError.TheVariants.{Unsolvable, Refused}

-- ---- rules: 1, 2, 3, 4, and for binary cells 5

-- the output is as long as the line, and the memo has at least 65 × 64 bytes
abbrev pub room_for : ℕ → ℕ → ℕ → Bool
room_for n memo out = eqb out n && leb memo_size memo

-- the length, then the lists and the blocks
abbrev pub line_rules : ℕ → Lent → ℕ → ℕ → List Rule
line_rules n b memo out = length_rules n ++ block_rules b (room_for n memo out)

abbrev pub binary_line_rules : List ℕ → List ℕ → ℕ → ℕ → List Rule
binary_line_rules cells sizes memo out = length_rules (length cells) ++ block_rules (binary sizes) (room_for (length cells) memo out) ++ cell_rules cells

-- ---- answers

-- document 01's number of each answer
abbrev pub line_answer_number : Result ⊤ LineError → ℕ
line_answer_number (Ok _) = 0
line_answer_number (Err Unsolvable) = 8
line_answer_number (Err (Refused w)) = refusal_number_of w

-- the number that the rules and the line's answer give: 8 exactly if no rule is broken and no placement agrees
abbrev pub number_of : Verdict → Option (List ℕ) → ℕ
number_of (Err w) a = refusal_number_of w
number_of (Ok _) none = 8
number_of (Ok _) (some m) = 0

-- the output after the call: as it stood, unless the number is 0
abbrev pub output : Verdict → Option (List ℕ) → List ℕ → List ℕ
output (Err w) a out = out
output (Ok _) none out = out
output (Ok _) (some m) out = m

-- the statement of both calls, by their rules and the line's answer: the number, the output and the memo. After 0 or 8 the memo is left open
pub record Solves (rules : List Rule) (answer : Option (List ℕ)) (memo out : List ℕ) (number : ℕ) (memo' out' : List ℕ) : Type 0 where
  pub tells : number ≡ number_of (verdict rules) answer
  pub leaves : out' ≡ output (verdict rules) answer out
  pub kept : (w : Refusal) → verdict rules ≡ Err w → memo' ≡ memo
  pub long : length memo' ≡ length memo

-- a coloured cell is the union of what agreeing placements give it
abbrev pub SolvesLine : List ℕ → Lent → List ℕ → List ℕ → ℕ → List ℕ → List ℕ → Type 0
SolvesLine cells b memo out = Solves (line_rules (length cells) b (length memo) (length out)) (line_answer b.list cells) memo out

-- a binary cell is 1 or 2 if they all say so, else 0
abbrev pub SolvesBinaryLine : List ℕ → List ℕ → List ℕ → List ℕ → ℕ → List ℕ → List ℕ → Type 0
SolvesBinaryLine cells sizes memo out = Solves (binary_line_rules cells sizes (length memo) (length out)) (binary_answer sizes cells) memo out
