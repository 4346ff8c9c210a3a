-- A run by the order rules: the stack of lines, top first; the report; the number of lines solved.
use Rattle.std.specs.Prelude.{◌≡◌, Bool, false, cond, List, [], ◌∷◌, ◌++◌, map, reverse, ℕ, zero, suc, ◌+◌, ◌-◌, ◌/◌, eqb, leb}
use Rattle.std.proofs.Math.Option.{Option, none, some}
use Rattle.std.specs.Int.Count.{ones}
use Rattle.rules.specs.Answer.{Refused}
use Rattle.rules.specs.Board.{row, column, On, place, cross, line_of, store, Widest, Unsettled}
use Rattle.rules.specs.declared.LinePosition.{LinePosition}
use Rattle.rules.specs.declared.LinePosition.TheVariants.{Row, Column}

-- ---- the stack

abbrev pub same_line_of : LinePosition → LinePosition → Bool
same_line_of (Row y) (Row z) = eqb y.0 z.0
same_line_of (Row y) (Column x) = false
same_line_of (Column x) (Row y) = false
same_line_of (Column x) (Column z) = eqb x.0 z.0

abbrev pub remove : LinePosition → List LinePosition → List LinePosition
remove l [] = []
remove l (m ∷ st) = cond (same_line_of l m) (remove l st) (m ∷ remove l st)

-- a pushed line moves to the top and stands once
abbrev pub push : LinePosition → List LinePosition → List LinePosition
push l st = l ∷ remove l st

-- the indexes at which two lists differ, ascending, counted from j
abbrev pub changed : ℕ → List ℕ → List ℕ → List ℕ
changed j [] m = []
changed j (a ∷ l) [] = []
changed j (a ∷ l) (b ∷ m) = cond (eqb a b) (changed (suc j) l m) (j ∷ changed (suc j) l m)

-- the crossing lines of the indexes, pushed from the highest to the lowest
abbrev pub push_all : LinePosition → List ℕ → List LinePosition → List LinePosition
push_all l [] st = st
push_all l (j ∷ js) st = push (cross l j) (push_all l js st)

-- ---- a run

-- the room number: the sum, over all cells, of the number of its colours less one
abbrev pub room : List ℕ → ℕ
room [] = 0
room (s ∷ b) = (ones s - 1) + room b

-- the end of a run: the board, the report, and the number of lines solved; and the line that was refused
pub data Outcome : Type 0 where
  done : (board report : List ℕ) (solved : ℕ) → Outcome
  refused : (line : LinePosition) (board report : List ℕ) (solved : ℕ) → Outcome

module _ (w h : ℕ) (solve : LinePosition → List ℕ → Option (List ℕ)) where
  -- a run from this stack, board, report and number of lines solved comes to this end: the top line is taken; refused, it ends the run;
  -- solved, it is stored, its changes are reported, and their crossing lines pushed
  pub data Runs : List LinePosition → List ℕ → List ℕ → ℕ → Outcome → Type 0 where
    stops : {b r : List ℕ} {k : ℕ} → Runs [] b r k (done b r k)
    refuses : {l : LinePosition} {st : List LinePosition} {b r : List ℕ} {k : ℕ} → solve l (line_of w h b l) ≡ none
        → Runs (l ∷ st) b r k (refused l b r k)
    steps : {l : LinePosition} {st : List LinePosition} {b r : List ℕ} {k : ℕ} {o : Outcome} (m : List ℕ) → solve l (line_of w h b l) ≡ some m
        → Runs (push_all l (changed 0 (line_of w h b l) m) st) (store w l m b) (r ++ map (place w l) (changed 0 (line_of w h b l) m)) (suc k) o
        → Runs (l ∷ st) b r k o

abbrev pub on_some : {A : Type 0} → Option (List ℕ) → A → (List ℕ → A) → A
on_some none a f = a
on_some (some m) a f = f m

module _ (w h : ℕ) (solve : LinePosition → List ℕ → Option (List ℕ)) where
  -- the same computed. The first number only bounds the steps: the room number and the stack's length together are enough
  unfoldable pub run : ℕ → List LinePosition → (board report : List ℕ) → (solved : ℕ) → Outcome
  run zero st b r k = done b r k
  run (suc n) [] b r k = done b r k
  run (suc n) (l ∷ st) b r k =
      on_some (solve l (line_of w h b l)) (refused l b r k)
      (λ m. let js = changed 0 (line_of w h b l) m in run n (push_all l js st) (store w l m b) (r ++ map (place w l) js) (suc k))

-- ---- where a run begins

-- m, m + 1, .. m + n - 1
abbrev pub up_from : ℕ → ℕ → List ℕ
up_from m zero = []
up_from m (suc n) = m ∷ up_from (suc m) n

-- all columns ascending, then all rows ascending
abbrev pub all_lines : ℕ → ℕ → List LinePosition
all_lines w h = map column (up_from 0 w) ++ map row (up_from 0 h)

-- the distance of a line's index from the middle, width / 2 for a column and height / 2 for a row
abbrev pub distance : ℕ → ℕ → LinePosition → ℕ
distance w h (Row y) = (y.0 - h / 2) + (h / 2 - y.0)
distance w h (Column x) = (x.0 - w / 2) + (w / 2 - x.0)

-- sorted by distance, smallest first, ties in the order written
abbrev pub insert : ℕ → ℕ → LinePosition → List LinePosition → List LinePosition
insert w h l [] = l ∷ []
insert w h l (m ∷ st) = cond (leb (distance w h l) (distance w h m)) (l ∷ m ∷ st) (m ∷ insert w h l st)

abbrev pub sorted : ℕ → ℕ → List LinePosition → List LinePosition
sorted w h [] = []
sorted w h (l ∷ st) = insert w h l (sorted w h st)

-- a full run takes from the end, so the last is on top
unfoldable pub full_stack : ℕ → ℕ → List LinePosition
full_stack w h = reverse (sorted w h (all_lines w h))

-- a point run starts with column x, then row y on top
abbrev pub point_stack : ℕ → ℕ → List LinePosition
point_stack x y = row y ∷ column x ∷ []

module _ (w h : ℕ) (solve : LinePosition → List ℕ → Option (List ℕ)) where
  unfoldable pub full_run : List ℕ → Outcome
  full_run b = run w h solve (room b + (w + h)) (full_stack w h) b [] 0

  unfoldable pub point_run : ℕ → ℕ → List ℕ → Outcome
  point_run x y b = run w h solve (room b + 2) (point_stack x y) b [] 0

-- ---- what is said of the end of a run

abbrev pub board_of : Outcome → List ℕ
board_of (done b r k) = b
board_of (refused l b r k) = b

abbrev pub report_of : Outcome → List ℕ
report_of (done b r k) = r
report_of (refused l b r k) = r

abbrev pub solved_of : Outcome → ℕ
solved_of (done b r k) = k
solved_of (refused l b r k) = k

module _ (P : LinePosition → List ℕ → Type 0) (w h : ℕ) where
  -- demand 3, of a run from b₀: refused exactly if no settled board lies within b₀, else ended with the widest one
  abbrev pub Ends : List ℕ → Outcome → Type 0
  Ends b₀ (done b r k) = Widest P w h b₀ b
  Ends b₀ (refused l b r k) = Unsettled P w h b₀

  -- where a run is refused: the line is one of the board, and no placement of it agrees with the board that is left
  abbrev pub Halts : Outcome → Type 0
  Halts (done b r k) = Unit {0}
  Halts (refused l b r k) = On w h l × Refused (P l) (line_of w h b l)

-- both refused, perhaps at another line, or both done on one board
abbrev pub Alike : Outcome → Outcome → Type 0
Alike (done b r k) (done c s n) = b ≡ c
Alike (done b r k) (refused l c s n) = ⊥
Alike (refused l b r k) (done c s n) = ⊥
Alike (refused l b r k) (refused m c s n) = Unit {0}
