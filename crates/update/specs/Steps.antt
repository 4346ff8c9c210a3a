-- What the functions of one line of a run ask and tell.
use Rattle.std.specs.Prelude.{◌≡◌, Bool, true, false, ℕ, ◌+◌, ◌≤◌, ◌<◌, length}
use mathlib.Core.List.{List, ◌∷◌, Memᴰ}
use Rattle.std.proofs.Math.Option.{none, some}
use Rattle.rules.specs.Binary.{line_answer}
use Rattle.rules.specs.Block.{Block, blocks, illegal}
use Rattle.rules.specs.Board.{len, On, line_of, store}
use Rattle.rules.specs.Card.{Card, clue_of, solve_straight}
use Rattle.rules.specs.Run.{push_all, changed, room}
use Rattle.rules.specs.declared.LinePosition.{LinePosition}
use Rattle.rules.specs.Refusal.{memo_size, stack_size}
use Rattle.grid.specs.declared.report.Report.{Report}
use Rattle.grid.specs.Grid.{Grid, changes, news, Reports}
use Rattle.stack.specs.declared.Stack.{Stack}
use Rattle.stack.specs.Stack.{lines_on, Lines}
use Rattle.card.specs.Steps.{RightCard}

-- the stack has room for the crossing lines of any of the line's n indexes
pub record Roomy (n : ℕ) (l : LinePosition) (s : Stack) : Type 0 where
  pub space : (js : List ℕ) → ((j : ℕ) → Memᴰ j js → j < n) → length (push_all l js (lines_on s)) < length s.codes.now

-- the line whose cells these are has the answer answer', and the crossing lines of its changes are pushed
pub record Pushes (bs : List Block) (l : LinePosition) (cells : List ℕ) (s : Stack) (answer' : List ℕ) (s' : Stack) : Type 0 where
  pub tells : line_answer bs cells ≡ some answer'
  pub pushes : lines_on s' ≡ push_all l (changed 0 cells answer') (lines_on s)

-- the attempt tells whether the line has an answer
abbrev pub Attempted : List Block → LinePosition → List ℕ → Stack → Bool → List ℕ → Stack → Type 0
Attempted bs l cells s false answer' s' = line_answer bs cells ≡ none
Attempted bs l cells s true answer' s' = Pushes bs l cells s answer' s'

-- what is asked of a line of the grid and its blocks
pub record Triable (w h : ℕ) (l : LinePosition) (b sizes colours memo column answer : List ℕ) (s : Stack) : Type 0 where
  pub grid : Grid w h b
  pub on : On w h l
  pub exact : length answer ≡ len w h l
  pub copy : h ≤ length column
  pub memos : memo_size ≤ length memo
  pub paired : length sizes ≡ length colours
  pub few : length sizes ≤ 64
  pub legal : illegal (blocks sizes colours) ≡ false
  pub roomy : Roomy (len w h l) l s

-- before a line is taken up: it has left the stack, on which it and the other lines stand once
pub record Ready (w h : ℕ) (c : Card) (l : LinePosition) (b : List ℕ) (r : Report) (memo column answer : List ℕ) (s : Stack) : Type 0 where
  pub grid : Grid w h b
  pub right : RightCard w h c
  pub lines : Lines w h (l ∷ lines_on s)
  pub exact : length answer ≡ len w h l
  pub copy : h ≤ length column
  pub memos : memo_size ≤ length memo
  pub stacked : stack_size ≤ length s.codes.now
  pub reports : r.count + room b ≤ length r.cells.now

-- the line was refused: nothing is stored
pub record Refuses (w h : ℕ) (c : Card) (l : LinePosition) (b : List ℕ) (r : Report) (b' : List ℕ) (r' : Report) : Type 0 where
  pub refused : solve_straight w h (clue_of c) l (line_of w h b l) ≡ none
  pub board : b' ≡ b
  pub reports : r' ≡ r

-- the line was solved: it is stored, its changes are reported and their crossing lines pushed
pub record Moves (w h : ℕ) (c : Card) (l : LinePosition) (b : List ℕ) (r : Report) (s : Stack) (b' : List ℕ) (r' : Report) (s' : Stack) : Type 0 where
  pub cells : List ℕ
  pub solved : solve_straight w h (clue_of c) l (line_of w h b l) ≡ some cells
  pub board : b' ≡ store w l cells b
  pub stacks : lines_on s' ≡ push_all l (changes w h l cells b) (lines_on s)
  pub reports : Reports r (news w h l cells b) r'

-- one or the other, as is told: whether the line was solved
abbrev pub Updated : ℕ → ℕ → Card → LinePosition → List ℕ → Report → Stack → Bool → List ℕ → Report → Stack → Type 0
Updated w h c l b r s false b' r' s' = Refuses w h c l b r b' r'
Updated w h c l b r s true b' r' s' = Moves w h c l b r s b' r' s'
