-- What is left to read gives the whole word.
use Rattle.std.proofs.Common.{arith, rules, ◌<◌, length}
use Rattle.non.proofs.Worded.{value_next, read_whole, read_over}
use Rattle.non.proofs.words.Class.value.Goals as goal

pub returns-in_default-clause-value : goal.returns-in_default-clause-value
returns-in_default-clause-value c = read_over _ _ _ _ c.loop-byte.invariant.whole c.loop-byte-test.true (omega (arith, c.in_default.ensures))

pub loop-byte-preserved : goal.loop-byte-preserved
loop-byte-preserved c = record {
  fits = omega (arith, c.in-Some.ensures);
  whole = value_next _ _ _ _ c.loop-byte.invariant.whole _ c.loop-byte-test.true c.in-Some.ensures.1;
}

pub returns-clause-value : goal.returns-clause-value
returns-clause-value c =
    let some : 0 < length c.args.word.now = search rules in
    read_whole _ _ _ _ c.loop-byte.invariant.whole some c.loop-byte-test.false c.loop-byte.invariant.fits
