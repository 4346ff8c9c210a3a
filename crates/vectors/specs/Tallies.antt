-- What the contracts of tallies cite.
use Rattle.std.specs.Prelude.{ℕ, ◌+◌, ◌%◌, ◌^◌, Bool, if◌then◌else◌, slice_get}
use Rattle.std.specs.Option.{unwrap_or}
use Rattle.vectors.specs.declared.report.Tally.{Tally}
use Rattle.vectors.specs.declared.report.Tallies.{Tallies}

-- the tally of no case
abbrev pub no_tally : Tally
no_tally = record { cases = 0; differing = 0 }

-- the tally of a call; none for a number that no call has
abbrev pub tally_of : Tallies → ℕ → Tally
tally_of tallies call = unwrap_or (slice_get tallies.calls call) no_tally

-- the tally after one case more, which differs or not
abbrev pub one_more : Tally → Bool → Tally
one_more tally differs = record {
  cases = (tally.cases + 1) % 2 ^ 64;
  differing = (tally.differing + (if differs then 1 else 0)) % 2 ^ 64;
}

-- two tallies together
abbrev pub plus : Tally → Tally → Tally
plus tally more = record {
  cases = (tally.cases + more.cases) % 2 ^ 64;
  differing = (tally.differing + more.differing) % 2 ^ 64;
}
