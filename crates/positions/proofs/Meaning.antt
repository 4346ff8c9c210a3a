-- The ranges of the call's own answer, by rules: no range is too narrow, and none is wider than it need be.
use Rattle.std.specs.Prelude.{Ok}
use Rattle.rules.specs.Refusal.{verdict, roomy, written, left, Verdict}
use mathlib.Core.Path.{◌≡◌, ap, ◌∙◌}
use mathlib.Core.Bool.{Bool, ◌&&◌}
use mathlib.Core.List.{List, map}
use Prim.Native.Nat.{ℕ, ◌<◌}
use native.Mathlib.Omega.{arith}
use lib.ListN.{length, get_or, drop, length-map, get_or-append}
use Rattle.rules.specs.Block.{Lent, colours_by}
use Rattle.rules.specs.Ranges.{range_colours, range_start, range_end, RangeOf}
use Rattle.rules.proofs.Blocks.{test_legal}
use Rattle.rules.proofs.Readings.{get_or-map_lt}
use Rattle.rules.proofs.Replies.{done_count}
use Rattle.rules.proofs.Tight.{range_exact, new_from}
use Rattle.positions.specs.Calls.{range_rules, ColorRanges}
use Rattle.positions.proofs.Judged.{range_fine}

-- an entry that was written
entry : {v : Verdict} (vs out out' : List ℕ) (i : ℕ) → v ≡ Ok tt → out' ≡ left v vs out → i < length vs → get_or out' i 0 ≡ get_or vs i 0
entry vs out out' i e q h =
    let p : out' ≡ written vs out = rw e at q in
    ap (λ l. get_or l i 0) p ∙ get_or-append vs (drop (length vs) out) 0 i h

module _ (n : ℕ) (b : Lent) {colours from to colours' from' to' : List ℕ} {m : ℕ}
    (c : ColorRanges n b colours from to (Ok m) colours' from' to') where
  abbrev fits : Bool
  fits = roomy b colours && (roomy b from && roomy b to)

  done : (verdict (range_rules n b fits) ≡ Ok tt) × (m ≡ length (range_colours b.list))
  done = done_count (verdict (range_rules n b fits)) c.answers

  -- each range that is told begins and ends with cells that some placements give its colour, and no placement gives it to a cell outside
  pub ranges_exact : (i : ℕ) → i < m → RangeOf b.list n (get_or colours' i 0) (get_or from' i 0) (get_or to' i 0)
  ranges_exact i h =
      let cs = range_colours b.list in
      let k : i < length cs = omega (arith, done.1) in
      let r = range_fine n b fits done.0 in
      let s = new_from _ (colours_by b.list) i k in
      rw (
        entry cs colours colours' i done.0 c.colour_list k,
        entry (map (range_start b.list) cs) from from' i done.0 c.from_list (omega (arith, length-map cs (range_start b.list))),
        entry (map (range_end b.list n) cs) to to' i done.0 c.to_list (omega (arith, length-map cs (range_end b.list n))),
        get_or-map_lt (range_start b.list) cs i k,
        get_or-map_lt (range_end b.list n) cs i k,
      )
      (range_exact b.list n (get_or cs i 0) s.0 (test_legal b.list r.blocked.legal) r.fits
      (omega (arith, s.1, length-map b.list (λ x. x.colour))) s.2)
