-- The bit after that of blank, and so on, is that of the word.
use Rattle.non.proofs.Coloured.{single, named}
use Rattle.non.proofs.palette.Palette.know_word.Goals as goal

pub returns-clause-colour : goal.returns-clause-colour
returns-clause-colour c = single _ c.in_ok-place.ensures.room

pub returns-clause-named : goal.returns-clause-named
returns-clause-named c = named _ _ _ c.in_ok-place.ensures.room c.in_ok-place.ensures.named
