-- The statements of the public calls, from what their parts tell.
use Rattle.std.specs.Prelude.{Err, Ok}
use lib.ListN.{length, length-map}
use mathlib.Core.Path.{◌≡◌, sym, ap, ◌∙◌}
use Rattle.positions.proofs.Judged.{slack_is, tight_is, range_fine}
use mathlib.Core.Bool.{Bool, ◌&&◌}
use mathlib.Core.List.{List, [], ◌∷◌, map}
use Prim.Native.Nat.{ℕ, ◌+◌, ◌-◌, ◌≤◌}
use native.Mathlib.Omega.{arith}
use borrow.Author.Tests.{leb-true, eqb-true}
use lib.Seq.{sets}
use Rattle.rules.specs.Block.{Lent, colours_by, coloured}
use Rattle.rules.specs.Packing.{minimal_space}
use Rattle.rules.specs.Ranges.{range_colours, range_start, range_end}
use Rattle.rules.specs.Refusal.{roomy, verdict}
use Rattle.rules.specs.declared.Refusal.{Refusal}
use Rattle.rules.proofs.Tests.{both_true, rooms}
use Rattle.rules.proofs.Blocks.{length_blocks, colours_back}
use Rattle.loops.proofs.Going.{written_sets, put_count, put_written}
use Rattle.positions.specs.Calls.{range_rules, ColorRanges}
use Rattle.positions.specs.Steps.{space_of, RangesFit, RangesOf}
use Rattle.positions.proofs.Ranged.{length_new}

-- ---- color_ranges

module _ (n : ℕ) (ns cs ids from to : List ℕ) where
  abbrev b : Lent
  b = coloured ns cs

  abbrev fits : Bool
  fits = roomy b ids && (roomy b from && roomy b to)

  module _ {t : Bool} (te : t ≡ fits) where
    same_verdict : verdict (range_rules n b fits) ≡ verdict (range_rules n b t)
    same_verdict = ap (λ u. verdict (range_rules n b u)) (sym te)

    pub color_refused : {w : Refusal} → space_of (verdict (range_rules n b t)) (n - minimal_space b.list) ≡ Err w
        → ColorRanges n b ids from to (Err w) ids from to
    color_refused e =
        let v = same_verdict ∙ tight_is (verdict (range_rules n b t)) (n - minimal_space b.list) e in
        record { answers = rw v; colour_list = rw v; from_list = rw v; to_list = rw v }

    module _ {k : ℕ} (e : space_of (verdict (range_rules n b t)) (n - minimal_space b.list) ≡ Ok k) where
      fine : (verdict (range_rules n b t) ≡ Ok tt) × (k ≡ n - minimal_space b.list)
      fine = slack_is (verdict (range_rules n b t)) (n - minimal_space b.list) k e

      space : minimal_space b.list + k ≡ n
      space = omega (arith, (range_fine n b t fine.0).fits, fine.1)

      pub color_fit : RangesFit ns cs k ids from to
      color_fit =
          let r = range_fine n b t fine.0 in
          let q = eqb-true (length ns) (length cs) r.blocked.counted.one_length in
          let l = length_blocks ns cs q in
          let u = both_true (roomy b ids) (roomy b from && roomy b to) (sym te ∙ r.blocked.counted.room) in
          let v = rooms (length b.list) (length from) (length to) u.1 in
          record {
            equal = q;
            few = omega (arith, r.blocked.counted.few, l);
            low = omega (arith, space, r.short);
            ids_room = omega (arith, q, l, leb-true (length b.list) (length ids) u.0);
            from_room = omega (arith, q, l, v.0);
            to_room = omega (arith, q, l, v.1);
          }

      pub color_done : {r : ℕ} {ids' from' to' : List ℕ} → RangesOf b.list k ids from to r ids' from' to'
          → ColorRanges n b ids from to (Ok r) ids' from' to'
      color_done q =
          let v = same_verdict ∙ fine.0 in
          let bs = b.list in
          let f = color_fit in
          let m : length (range_colours bs) ≤ length cs =
          omega (arith, length_new [] (colours_by bs), ap length (colours_back ns cs f.equal)) in
          record {
            answers = rw v (ap (λ x. 0 ∷ x ∷ []) (put_count q.colour_list));
            colour_list = rw v (put_written q.colour_list (omega (arith, f.ids_room)));
            from_list =
                rw v
                (q.from_list
                ∙ written_sets (map (range_start bs) (range_colours bs)) from
                (omega (arith, length-map (range_colours bs) (range_start bs), f.from_room)));
            to_list = rw v
                (q.to_list ∙ ap (λ x. sets to 0 (map (range_end bs x) (range_colours bs))) space
                ∙ written_sets (map (range_end bs n) (range_colours bs)) to (omega (arith, length-map (range_colours bs) (range_end bs n), f.to_room)));
          }
