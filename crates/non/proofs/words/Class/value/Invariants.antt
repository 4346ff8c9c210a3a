use Rattle.std.proofs.Common.{◌≡◌, ◌≤◌, drop}
use Rattle.non.specs.Wording.{most_of, value_from}
use Rattle.non.proofs.words.Class.value.Given as goal

-- the value of what was read, with the bytes that are left, is that of the word
abbrev pub invariant-loop-byte : goal.invariant-loop-byte
invariant-loop-byte l = record {
  fits : l.value ≤ most_of l.self;
  whole : value_from l.self 0 l.word ≡ value_from l.self l.value (drop l.byte-index l.word);
}
