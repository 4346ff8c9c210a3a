-- `ranges::write_all` meets its contract, by the packed starts and ends.
use Rattle.std.proofs.Common.{rules}
use Rattle.positions.proofs.Ranged.{zeros_room, ranges_need, ranges_of}
use Rattle.positions.proofs.ranges.write_all.Goals as goal

pub pack-requires-clause-room : goal.pack-requires-clause-room
pack-requires-clause-room c = zeros_room (c.requires)

pub pack-requires-2-clause-room : goal.pack-requires-2-clause-room
pack-requires-2-clause-room c = zeros_room (c.requires)

pub write_ranges-requires : goal.write_ranges-requires
write_ranges-requires c =
    ranges_need (c.requires) (c.pack.ensures (λ start end. start) (λ start end r p. search rules))
    (c.pack-2.ensures (λ start end. end) (λ start end r p. search rules))

pub returns : goal.returns
returns c =
    ranges_of (c.requires) (c.pack.ensures (λ start end. start) (λ start end r p. search rules))
    (c.pack-2.ensures (λ start end. end) (λ start end r p. search rules)) c.write_ranges.ensures
