-- The clues that a call left stand in its lists, line by line.
use Rattle.std.specs.Prelude.{Ok}
use mathlib.Core.Path.{◌≡◌, ap}
use mathlib.Core.List.{List}
use Prim.Native.Nat.{ℕ, ◌≤◌}
use native.Mathlib.Omega.{arith}
use lib.ListN.{length, take, drop, length-append, length-map}
use lib.Seq.{take_at}
use Rattle.rules.specs.Block.{Block, sizes_by}
use Rattle.rules.specs.Board.{row, column, line_of}
use Rattle.rules.specs.Card.{sum, gathered, count_of, row_clues_of, column_clues_of}
use Rattle.rules.specs.Clue.{black_clue}
use Rattle.rules.specs.Refusal.{verdict, written}
use Rattle.rules.proofs.Gatherings.{counts_sum, lines_counted}
use Rattle.picture.specs.Calls.{binary_clues_rules, BinaryClues, totals}
use Rattle.picture.proofs.Pictures.{done_fine}

-- one direction, whose lists were written
direction : (L : List (List Block)) (n : ℕ) (rc rs : List ℕ) → length (gathered count_of L) ≡ n
    → sum (take n (written (gathered count_of L) rc)) ≤ length (written (gathered sizes_by L) rs)
direction L n rc rs e =
    let counts = gathered count_of L in
    let sizes = gathered sizes_by L in
    omega (
      arith,
      ap sum (take_at counts (drop (length counts) rc) n e),
      counts_sum sizes_by (λ bs. length-map bs (λ k. k.size)) L,
      length-append sizes (drop (length sizes) rs),
    )

-- both directions, from the statement of a call that was done
module _ (e w h : ℕ) (b rc rs cc cs : List ℕ) {m n : ℕ} {rc' rs' cc' cs' : List ℕ}
    (c : BinaryClues e w h b rc rs cc cs (Ok (totals m n)) rc' rs' cc' cs') where
  fine : verdict (binary_clues_rules w h b rc rs cc cs) ≡ Ok tt
  fine =
      (done_fine (verdict (binary_clues_rules w h b rc rs cc cs)) (length (gathered sizes_by (row_clues_of (black_clue e) w h b)))
      (length (gathered sizes_by (column_clues_of (black_clue e) w h b))) m n c.answers).0

  pub rows_lined : sum (take h rc') ≤ length rs'
  rows_lined =
      rw (c.row_counts, c.row_sizes, fine)
      (direction (row_clues_of (black_clue e) w h b) h rc rs (lines_counted (λ y. black_clue e (line_of w h b (row y))) h))

  pub columns_lined : sum (take w cc') ≤ length cs'
  columns_lined =
      rw (c.column_counts, c.column_sizes, fine)
      (direction (column_clues_of (black_clue e) w h b) w cc cs (lines_counted (λ x. black_clue e (line_of w h b (column x))) w))
