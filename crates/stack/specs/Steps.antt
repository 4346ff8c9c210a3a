-- What the private functions say. A reader of the public ones needs none of it.
use Rattle.std.specs.Prelude.{◌≡◌, Bool, false, cond, ◌||◌, List, [], ◌∷◌, ◌++◌, map, ℕ, zero, suc, ◌+◌, ◌-◌, ◌/◌, ◌≤◌, eqb, ltb, length}
use mathlib.Core.List.{reverse_aux}
use Rattle.rules.specs.declared.LinePosition.{LinePosition}
use Rattle.stack.specs.declared.Stack.{Stack}
use Rattle.stack.specs.Stack.{line_of_code, lines_on, Kept}
use Rattle.rules.specs.Board.{cross}
use Rattle.rules.specs.Run.{same_line_of}

-- the code of line i, if there are so many lines in its direction; the first of them has the code base
abbrev pub code_at : (base n i : ℕ) → List ℕ
code_at base n i = cond (ltb i n) ((i + base) ∷ []) []

-- the codes of the lines at distance d from the middle of n lines, the lower one first
unfoldable pub around : (base n d : ℕ) → List ℕ
around base n d = cond (ltb (n / 2) d) [] (code_at base n (n / 2 - d) ++ cond (eqb d 0) [] (code_at base n (n / 2 + d)))

-- the codes of the lines at the distances d, d + 1, .. d + k - 1, of each the columns first
unfoldable pub codes_from : (w h d k : ℕ) → List ℕ
codes_from w h d zero = []
codes_from w h d (suc k) = around 0 w d ++ (around 64 h d ++ codes_from w h (suc d) k)

-- the lines with these codes are pushed, one after the other
pub record Piled (s : Stack) (vs : List ℕ) (s' : Stack) : Type 0 where
  pub kept : Kept s s'
  pub lines : lines_on s' ≡ reverse_aux (map line_of_code vs) (lines_on s)

-- the answer has as many cells as the line had, few enough
pub record Comparable (before answer : List ℕ) : Type 0 where
  pub long : length before ≡ length answer
  pub short : length answer ≤ 64

-- is m one of the lines that cross line l at the indexes js?
abbrev pub crosses : (l : LinePosition) (js : List ℕ) (m : LinePosition) → Bool
crosses l [] m = false
crosses l (j ∷ js) m = same_line_of (cross l j) m || crosses l js m

-- the stack without those lines
abbrev pub without : (l : LinePosition) (js : List ℕ) → List LinePosition → List LinePosition
without l js [] = []
without l js (m ∷ st) = cond (crosses l js m) (without l js st) (m ∷ without l js st)
