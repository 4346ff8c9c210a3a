-- `line::count_blocks` meets its contract: the runs that are not blank are the blocks.
use lib.ListN.{length}
use mathlib.Core.Path.{refl, ap, ◌∙◌}
use borrow.Author.Tests.{tests}
use Rattle.clue.specs.Steps.{clue_in}
use Rattle.std.specs.Slice.Iter.{chunk_by_rest}
use Rattle.std.proofs.Common.{rules}
use Rattle.std.proofs.lemmas.Fn.{always_returns_same}
use Rattle.clue.proofs.Runs.{count_drained}
use Rattle.clue.proofs.line.count_blocks.Goals as goal

pub returns : goal.returns
returns c =
    let ran = c.count.ensures.ran in
    ran.2
    ∙ count_drained _ _ c.args.reading.ink c.args.reading.blank _ (λ x b q k. search (rules, tests)) ran.0 _ (always_returns_same _ _ _ (λ a r q k. search rules)) refl ran.1
    ∙ ap (λ k. length (clue_in c.args.reading (chunk_by_rest k))) c.filter.ensures.source ∙ ap (λ l. length (clue_in c.args.reading l)) c.chunk_by.ensures.rest
