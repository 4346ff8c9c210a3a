-- `to_title` meets its contract: what is turned, and then what is left to turn, gives the whole.
use Rattle.std.proofs.Common.{◌≡◌, map, take, drop, ◌++◌}
use Rattle.scan.specs.Titles.{title_byte}
use Rattle.scan.proofs.cards.to_title.Given as goal

abbrev pub invariant-loop-byte : goal.invariant-loop-byte
invariant-loop-byte l = take l.byte-index l.name ++ map title_byte (drop l.byte-index l.name) ≡ map title_byte l.fn.name
