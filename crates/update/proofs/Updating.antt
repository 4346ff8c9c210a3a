-- One line of a run: what each step asks follows from what is known before it, and what they tell makes the step.
use mathlib.Core.Path.{◌≡◌, refl, sym, ap, ◌∙◌, subst}
use mathlib.Core.List.Memᴰ
use mathlib.Core.List.{List}
use mathlib.Core.Option.{some, none}
use Prim.Native.Nat.{ℕ, ◌+◌, ◌≤◌, ◌<◌}
use native.Mathlib.Omega.{arith}
use borrow.Author.Tests.{eq-eqb}
use lib.ListN.{length}
use Rattle.rules.specs.Answer.{Exact, Answers}
use Rattle.rules.specs.Binary.{line_answer}
use Rattle.rules.specs.Block.{blocks, coloured}
use Rattle.rules.specs.Board.{len, On, line_of, store}
use Rattle.rules.specs.Card.{Card, clue_of, Straight, solve_straight}
use Rattle.rules.specs.Run.{room}
use Rattle.rules.specs.declared.LinePosition.{LinePosition}
use Rattle.rules.specs.declared.LinePosition.TheVariants.{Row, Column}
use Rattle.rules.proofs.Boards.{length_line}
use Rattle.rules.proofs.Blocks.{length_blocks, legal_test}
use Rattle.rules.proofs.Cards.{straight_proper, straight_right}
use Rattle.rules.proofs.Runs.{room_step}
use Rattle.line.specs.Steps.{JudgedLine}
use Rattle.grid.specs.declared.report.Report.{Report}
use Rattle.grid.specs.Grid.{Grid, changes, Storable, Stored}
use Rattle.grid.proofs.Rows.{sized}
use Rattle.grid.proofs.Storing.{len_most}
use Rattle.stack.specs.declared.Stack.{Stack}
use Rattle.stack.specs.Stack.{lines_on}
use Rattle.stack.proofs.Onces.{lines_space}
use Rattle.card.specs.Steps.{Cut, sizes_at, colours_at}
use Rattle.card.proofs.Clued.{clue_is, clue_pairs, clue_few, clue_legal}
use Rattle.update.specs.Steps.{Roomy, Triable, Pushes, Ready, Refuses, Moves}

len_some : {w h : ℕ} {b : List ℕ} → Grid w h b → (l : LinePosition) → 0 < len w h l
len_some g (Row y) = g.wide
len_some g (Column x) = g.high

-- ---- solving a line's cells

pub solvable : {w h : ℕ} {l : LinePosition} {b sizes colours memo column answer : List ℕ} {s : Stack}
    → Triable w h l b sizes colours memo column answer s → (cells : List ℕ) → cells ≡ line_of w h b l
    → JudgedLine cells (coloured sizes colours) memo answer
solvable {w} {h} {l} {b} {sizes} {colours} t cells e =
    let n : length cells ≡ len w h l = ap length e ∙ length_line w h b l in
    record {
      some = omega (arith, n, len_some t.grid l);
      short = omega (arith, n, len_most t.grid l);
      paired = eq-eqb _ _ t.paired;
      few = omega (arith, length_blocks sizes colours t.paired, t.few);
      legal = t.legal;
      room = t.memos;
      exact = t.exact ∙ sym n;
    }

-- the room for its crossing lines, by the number of its cells
pub roomy_cells : {w h : ℕ} {l : LinePosition} {b sizes colours memo column answer : List ℕ} {s : Stack}
    → Triable w h l b sizes colours memo column answer s → (cells : List ℕ) → cells ≡ line_of w h b l → Roomy (length cells) l s
roomy_cells {w} {h} {l} {b} t cells e =
    let n : length cells ≡ len w h l = ap length e ∙ length_line w h b l in
    rw n t.roomy

-- ---- a line of the grid

module _ {w h : ℕ} {c : Card} {l : LinePosition} {b : List ℕ} {r : Report} {memo column answer : List ℕ} {s : Stack}
    (v : Ready w h c l b r memo column answer s) where
  on_it : On w h l
  on_it = v.lines.on l (Memᴰ.head refl)

  roomy : Roomy (len w h l) l s
  roomy =
      record {
        space = λ js f. omega (arith, lines_space v.lines js f, v.stacked, v.grid.wide_most, v.grid.high_most);
      }

  -- the lists of a line's blocks can be cut out
  pub cut : Cut l c
  cut =
      let p = v.right.rows in
      let t = v.right.columns in
      let rows : length c.row_counts ≤ 64 = omega (arith, p.lines, v.grid.high_most) in
      let columns : length c.column_counts ≤ 64 = omega (arith, t.lines, v.grid.wide_most) in
      record {
        on = rw (p.lines, t.lines) on_it;
        row_sizes = record { lines = rows; total = p.total };
        row_colours = record { lines = rows; total = p.total ∙ sym p.pairs };
        column_sizes = record { lines = columns; total = t.total };
        column_colours = record { lines = columns; total = t.total ∙ sym t.pairs };
      }

  module _ {sizes colours : List ℕ} (e : sizes ≡ sizes_at l c) (f : colours ≡ colours_at l c) where
    pub tried : Triable w h l b sizes colours memo column answer s
    tried =
        record {
          grid = v.grid;
          on = on_it;
          exact = v.exact;
          copy = v.copy;
          memos = v.memos;
          paired = rw (e, f) (clue_pairs v.right l);
          few = rw e (clue_few v.right l);
          legal = rw (e, f, ← clue_is v.right l) (legal_test (clue_legal v.right l));
          roomy = roomy;
        }

    -- the answer of the line is that of the card's clue
    answer_is : solve_straight w h (clue_of c) l (line_of w h b l) ≡ line_answer (blocks sizes colours) (line_of w h b l)
    answer_is = rw (clue_is v.right l, ← e, ← f, length_line w h b l)

    pub refuses : line_answer (blocks sizes colours) (line_of w h b l) ≡ none → Refuses w h c l b r b r
    refuses q = record { refused = answer_is ∙ q; board = refl; reports = refl }

    module _ {answer' : List ℕ} {s' : Stack} (a : Pushes (blocks sizes colours) l (line_of w h b l) s answer' s') where
      solved : solve_straight w h (clue_of c) l (line_of w h b l) ≡ some answer'
      solved = answer_is ∙ a.tells

      exact : Exact (Straight w h (clue_of c) l) (line_of w h b l) answer'
      exact =
          subst (Answers (Straight w h (clue_of c) l) (line_of w h b l)) solved
          (straight_right w h (clue_of c) (clue_legal v.right) l (line_of w h b l))

      falls : room (store w l answer' b) + length (changes w h l answer' b) ≤ room b
      falls =
          room_step w h (straight_proper w h (clue_of c) (clue_legal v.right)) v.grid.wide v.grid.high (solve_straight w h (clue_of c))
          (straight_right w h (clue_of c) (clue_legal v.right)) l (lines_on s) b answer' on_it exact (sized v.grid)

      pub storable : Storable w h l answer' b r
      storable =
          record { grid = v.grid; on = on_it; exact = exact.long ∙ length_line w h b l; room = omega (arith, falls, v.reports) }

      pub moves : {b' : List ℕ} {r' : Report} → Stored w h l answer' b r b' r' → Moves w h c l b r s b' r' s'
      moves d = record { cells = answer'; solved = solved; board = d.board; stacks = a.pushes; reports = d.reports }
