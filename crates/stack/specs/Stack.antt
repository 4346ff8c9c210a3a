-- The stack as a list of numbers with a count: the last one counted is on top.
use Rattle.std.specs.Prelude.{◌≡◌, cond, ℕ, zero, suc, ◌-◌, ◌≤◌, ◌<◌, ltb, length, get_or}
use mathlib.Core.List.{List, [], ◌∷◌, Memᴰ}
use Rattle.rules.specs.Board.{row, column, On}
use Rattle.rules.specs.Run.{push_all}
use Rattle.rules.specs.declared.LinePosition.{LinePosition}
use Rattle.stack.specs.declared.Stack.{Stack}

-- a column is its index, and a row its index plus 64
abbrev pub line_of_code : ℕ → LinePosition
line_of_code n = cond (ltb n 64) (column n) (row (n - 64))

-- the lines that stand in the first n places, the last of them first
abbrev pub stack_of : List ℕ → ℕ → List LinePosition
stack_of s zero = []
stack_of s (suc n) = line_of_code (get_or s n 0) ∷ stack_of s n

-- the lines on a stack
abbrev pub lines_on : Stack → List LinePosition
lines_on s = stack_of s.codes.now s.count

-- it is still in the same lent list, which is as long as it was
pub record Kept (s s' : Stack) : Type 0 where
  pub same : s'.codes.ghost_name ≡ s.codes.ghost_name
  pub long : length s'.codes.now ≡ length s.codes.now

-- a stack in a lent list begins with these lines
pub record Starts (st : List LinePosition) (codes : List ℕ) (s : Stack) : Type 0 where
  pub lines : lines_on s ≡ st
  pub long : length s.codes.now ≡ length codes

-- no line stands twice
pub data Once : List LinePosition → Type 0 where
  no_lines : Once []
  one_more : {l : LinePosition} {st : List LinePosition} → (Memᴰ l st → ⊥) → Once st → Once (l ∷ st)

-- the lines on a stack are the board's, each once
pub record Lines (w h : ℕ) (st : List LinePosition) : Type 0 where
  pub on : (l : LinePosition) → Memᴰ l st → On w h l
  pub once : Once st

-- the answer has as many cells as the line had, few enough, and whatever it changes there is room for the lines that cross there
pub record Pushable (before answer : List ℕ) (line : LinePosition) (s : Stack) : Type 0 where
  pub long : length before ≡ length answer
  pub short : length answer ≤ 64
  pub space : (js : List ℕ) → ((j : ℕ) → Memᴰ j js → j < length answer) → length (push_all line js (lines_on s)) < length s.codes.now
