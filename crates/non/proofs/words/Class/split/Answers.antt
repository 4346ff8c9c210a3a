-- The count of the bytes that pass is the length of the word.
use Rattle.std.proofs.lemmas.List.Folds.{length-prefix_len}
use Rattle.non.specs.Wording.{in_word}
use Rattle.non.proofs.words.Class.split.Goals as goal

pub returns-clause-word : goal.returns-clause-word
returns-clause-word c = rw (c.split_at.ensures.front, c.reach.ensures, length-prefix_len (in_word c.args.self) c.args.text.now)
