-- The proof of the cycle solve_block, fill_matrix, fill_matrix_blank and fill_matrix_color.
use Rattle.std.proofs.Common.{◌≡◌, ℕ, ◌+◌, ◌-◌, ◌≤◌, arith}
use Rattle.filling.specs.Filling.{held}
use Rattle.filling.specs.Steps.{EndsBlank, EndsBlock, shade, stop_of}
use Rattle.filling.proofs.Fillings.{told, Piece, still, no_branch, space_le, at_edge, blank_fits, block_fits, no_piece, piece, piece_rest, both, learn}
use Rattle.filling.proofs.Pieces.{Found, blank_piece, no_room, no_block, starts, block_piece}
use Rattle.filling.proofs.+fillings.Goals as goal
use Rattle.filling.proofs.+fillings.Goals.{fill_matrix_blank-Else-not-can_be, fill_matrix_color-After-block_start, fill_matrix_color-Else-not-can_place_color}

pub fill_matrix-returns-then-position-wide : goal.fill_matrix-returns-then-position-wide
fill_matrix-returns-then-position-wide t c =
    no_branch _ _ c.requires.good
    (λ f F. omega (arith, c.wide.ensures.0, space_le _ c.args.block F.shows, c.requires.legal.sums c.args.block c.requires.block))

pub fill_matrix-fill_matrix_blank-blank-requires : goal.fill_matrix-fill_matrix_blank-blank-requires
fill_matrix-fill_matrix_blank-blank-requires t c = (omega (arith, c.decreases), c.requires)

pub fill_matrix-fill_matrix_color-colour-requires : goal.fill_matrix-fill_matrix_color-colour-requires
fill_matrix-fill_matrix_color-colour-requires t c = (
  omega (arith, c.decreases),
  record {
    legal = c.requires.legal;
    here = c.requires.here;
    block = c.requires.block;
    good = c.fill_matrix_blank-blank.ensures.good;
    rest = c.requires.rest;
  },
)

pub fill_matrix-returns : goal.fill_matrix-returns
fill_matrix-returns t c = both _ c.args.position c.args.block c.fill_matrix_blank-blank.ensures c.fill_matrix_color-colour.ensures

pub fill_matrix_blank-returns-then-not-can_be : goal.fill_matrix_blank-returns-then-not-can_be
fill_matrix_blank-returns-then-not-can_be t c =
    no_branch _ _ c.requires.good (λ f E. (told c.can_be.ensures).no c.if-not-can_be.true E.takes)

-- the blank as a piece of the line, where the cell can be blank
blank_found : (t : ℕ) (c : fill_matrix_blank-Else-not-can_be t)
    → Piece (held c.args.line.now) (EndsBlank (held c.args.line.now) c.args.position c.args.block) c.args.position c.args.block
    (c.args.position + 1) (λ i. 1)
blank_found t c = blank_piece _ _ _ ((told c.can_be.ensures).yes c.if-not-can_be.false)

pub fill_matrix_blank-solve_block-requires : goal.fill_matrix_blank-solve_block-requires
fill_matrix_blank-solve_block-requires t c =
    let at = goal.at.fill_matrix_blank-solve_block-requires t c in (
      omega (arith, c.decreases),
      record {
        legal = c.requires.legal;
        here = omega (arith, c.requires.here);
        block = c.requires.block;
        good = c.requires.good;
        rest = piece_rest (held c.args.line.now) (blank_found t at.Else-not-can_be)
            (λ f E. blank_fits _ c.args.position c.args.block E) c.requires.rest (omega arith);
      },
    )

pub fill_matrix_blank-returns-then-not-solve_block : goal.fill_matrix_blank-returns-then-not-solve_block
fill_matrix_blank-returns-then-not-solve_block t c =
    let at = goal.at.fill_matrix_blank-returns-then-not-solve_block t c in
    no_piece _ (blank_found t at.Else-not-can_be) (rw c.if-not-solve_block.true at c.solve_block.ensures)

pub fill_matrix_blank-returns : goal.fill_matrix_blank-returns
fill_matrix_blank-returns t c =
    let at = goal.at.fill_matrix_blank-returns t c in
    piece (held c.args.line.now) (blank_found t at.Else-not-can_be) (λ f E. blank_fits _ c.args.position c.args.block E) c.requires.rest
    (omega arith) c.requires.here
    (rw c.if-not-solve_block.false at c.solve_block.ensures)
    c.update_solved.ensures

pub fill_matrix_color-returns-then-block-eq0 : goal.fill_matrix_color-returns-then-block-eq0
fill_matrix_color-returns-then-block-eq0 t c = no_branch _ _ c.requires.good (λ f E. omega (arith, E.is))

-- what is known of the last block
found : (t : ℕ) (c : fill_matrix_color-After-block_start t)
    → Found (held c.args.line.now) c.args.position c.args.block c.trail_with_space-trailing.result c.room_of-room.result
found t c =
    record {
      legal = c.requires.legal;
      some = omega arith;
      within = c.requires.block;
      trail = c.trail_with_space-trailing.ensures;
      room_is = c.room_of-room.ensures.0;
    }

pub fill_matrix_color-returns-in_default : goal.fill_matrix_color-returns-in_default
fill_matrix_color-returns-in_default t c =
    let at = goal.at.fill_matrix_color-returns-in_default t c in
    no_branch _ _ c.requires.good (no_room (found t at.After-block_start) c.in_default.ensures.over)

pub fill_matrix_color-can_place_color-requires : goal.fill_matrix_color-can_place_color-requires
fill_matrix_color-can_place_color-requires t c =
    let at = goal.at.fill_matrix_color-can_place_color-requires t c in (
      starts (found t at.After-block_start) c.in-Some.start c.in-Some.ensures.fits,
      omega (arith, c.requires.here, c.requires.legal.short),
    )

pub fill_matrix_color-returns-then-not-can_place_color : goal.fill_matrix_color-returns-then-not-can_place_color
fill_matrix_color-returns-then-not-can_place_color t c =
    let at = goal.at.fill_matrix_color-returns-then-not-can_place_color t c in
    no_branch _ _ c.requires.good (no_block (found t at.After-block_start) c.in-Some.start c.in-Some.ensures.fits
    (c.can_place_color.ensures.no c.if-not-can_place_color.true))

color_piece : (t : ℕ) (c : fill_matrix_color-Else-not-can_place_color t)
    → Found (held c.args.line.now) c.args.position c.args.block c.trail_with_space-trailing.result c.room_of-room.result
    → Piece (held c.args.line.now) (EndsBlock (held c.args.line.now) c.args.position c.args.block) c.in-Some.start (c.args.block - 1) (c.args.position + 1)
    (shade (stop_of c.args.position c.trail_with_space-trailing.result) ((held c.args.line.now).colour (c.args.block - 1)))
color_piece t c F = block_piece F c.in-Some.start c.in-Some.ensures.fits (c.can_place_color.ensures.yes c.if-not-can_place_color.false)

pub fill_matrix_color-solve_block-requires : goal.fill_matrix_color-solve_block-requires
fill_matrix_color-solve_block-requires t c =
    let at = goal.at.fill_matrix_color-solve_block-requires t c in
    let F = found t at.After-block_start in
    let l = starts F c.in-Some.start c.in-Some.ensures.fits in (
      omega (arith, c.decreases, l),
      record {
        legal = c.requires.legal;
        here = omega (arith, c.requires.here, l);
        block = omega (arith, c.requires.block);
        good = c.requires.good;
        rest = piece_rest (held c.args.line.now) (color_piece t at.Else-not-can_place_color F) (λ f E. block_fits _ c.args.position c.args.block E)
            c.requires.rest (omega (arith, l));
      },
    )

pub fill_matrix_color-returns-then-not-solve_block : goal.fill_matrix_color-returns-then-not-solve_block
fill_matrix_color-returns-then-not-solve_block t c =
    let at = goal.at.fill_matrix_color-returns-then-not-solve_block t c in
    no_piece _ (color_piece t at.Else-not-can_place_color (found t at.After-block_start)) (rw c.if-not-solve_block.true at c.solve_block.ensures)

pub fill_matrix_color-returns : goal.fill_matrix_color-returns
fill_matrix_color-returns t c =
    let at = goal.at.fill_matrix_color-returns t c in
    let F = found t at.After-block_start in
    piece (held c.args.line.now) (color_piece t at.Else-not-can_place_color F) (λ f E. block_fits _ c.args.position c.args.block E) c.requires.rest
    (omega (arith, starts F c.in-Some.start c.in-Some.ensures.fits)) c.requires.here (rw c.if-not-solve_block.false at c.solve_block.ensures)
    c.set_color_block.ensures

pub solve_block-returns-then-cells-eq0 : goal.solve_block-returns-then-cells-eq0
solve_block-returns-then-cells-eq0 t c =
    still _ c.requires.good (at_edge _ c.args.cells c.args.block _ c.requires.legal (omega arith))

-- the cells are one more than the position
cells_at : (n : ℕ) → 1 ≤ n → n - 1 + 1 ≡ n
cells_at n h = omega arith

pub solve_block-returns-in-Some : goal.solve_block-returns-in-Some
solve_block-returns-in-Some t c =
    let known = c.in-Some.ensures.known in
    still _ c.requires.good (rw (cells_at c.args.cells (omega arith), known.1) at
    (c.requires.good.known (c.args.cells - 1) c.args.block (omega (arith, c.requires.here)) c.requires.block known.0))

pub solve_block-fill_matrix-solvable-requires : goal.solve_block-fill_matrix-solvable-requires
solve_block-fill_matrix-solvable-requires t c =
    (omega (arith, c.decreases), rw (cells_at c.args.cells (omega arith)) c.requires)

pub solve_block-returns : goal.solve_block-returns
solve_block-returns t c =
    rw (cells_at c.args.cells (omega arith)) at
    (learn _ (c.args.cells - 1) c.args.block _ (omega (arith, c.requires.here)) c.requires.block c.requires.legal c.mark.ensures c.fill_matrix-solvable.ensures)
