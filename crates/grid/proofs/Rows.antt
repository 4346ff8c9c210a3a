-- The rows and columns of a grid.
use Prim.Native.Nat.{ℕ, ◌+◌, ◌*◌, ◌≤◌, ◌<◌}
use lib.ListN.{length, take, drop, get_or, drop_of_length-le}
use lib.Seq.{drop-cons, take_at, length-take-le}
use mathlib.Core.List.{List, ◌∷◌, ◌++◌, append-nil}
use mathlib.Core.Path.{◌≡◌, sym, ap, ap₂, ◌∙◌}
use native.Mathlib.Nat.{mul-le-mul_right}
use native.Mathlib.Numerals.{add-one}
use native.Mathlib.Omega.{arith}
use Rattle.loops.proofs.Going.{Going, going_done, written_sets}
use Rattle.loops.specs.Put.{Put}
use Rattle.rules.proofs.Boards.{length_line, get_or_line, row_part}
use Rattle.rules.specs.Board.{row, column, line_of}
use Rattle.grid.specs.Grid.{Grid}

module _ {w h : ℕ} {b : List ℕ} (g : Grid w h b) where
  pub sized : length b ≡ h * w
  sized = omega (arith, g.size)

  pub row_in : (y : ℕ) → y < h → y * w + w ≤ length b
  row_in y q = omega (arith, mul-le-mul_right w q, sized)

  pub row_line : (y : ℕ) → y < h → take w (drop (y * w) b) ≡ line_of w h b (row y)
  row_line y q = sym (row_part w h b sized y q)

  -- the column's cells, one after the other
  pub column_step : (x y : ℕ) → y < h → drop y (line_of w h b (column x)) ≡ get_or b (y * w + x) 0 ∷ drop (y + 1) (line_of w h b (column x))
  column_step x y q =
      let l = line_of w h b (column x) in
      drop-cons l y 0 (omega (arith, length_line w h b (column x))) ∙ ap₂ (λ v n. v ∷ drop n l) (get_or_line w h b (column x) y q) (sym (add-one y))

  -- all of them are copied to the first places of a list, and the rest of it stays
  pub column_put : (x : ℕ) (line copied : List ℕ) {y : ℕ} → h ≤ length line → h ≤ y
      → Going (take h line) 0 (line_of w h b (column x)) copied y (drop y (line_of w h b (column x)))
      → Put line 0 (line_of w h b (column x)) h (copied ++ drop h line)
  column_put x line copied {y} q z g =
      let l = line_of w h b (column x) in
      let n : length l ≡ h = length_line w h b (column x) in
      let m : length (take h line) ≡ h = length-take-le h line q in
      let p = going_done g (drop_of_length-le l {i = y} (omega (arith, n))) in
      record {
        end = omega (arith, n);
        holds =
            ap (λ (c : List ℕ). c ++ drop h line)
            (p.holds ∙ written_sets l (take h line) (omega (arith, n, m)) ∙ ap (λ (r : List ℕ). l ++ r) (drop_of_length-le (take h line) {i = length l} (omega (arith, n, m)))
            ∙ append-nil l)
            ∙ ap (λ (i : ℕ). l ++ drop i line) (sym n) ∙ sym (written_sets l line (omega (arith, n)));
      }

  -- what the copied cells are
  pub column_copied : (x : ℕ) (line line' : List ℕ) → h ≤ length line → Put line 0 (line_of w h b (column x)) h line'
      → take h line' ≡ line_of w h b (column x)
  column_copied x line line' q p =
      let l = line_of w h b (column x) in
      ap (take h) (p.holds ∙ written_sets l line (omega (arith, length_line w h b (column x))))
      ∙ take_at l (drop (length l) line) h (length_line w h b (column x))
