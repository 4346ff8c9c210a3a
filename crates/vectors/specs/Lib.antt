-- `Counts` is what a count of a list's entries is; `Fillers` is what a filled list holds; `Tallies` is what a tally of cases counts.
pub mod Counts
pub mod Fillers
pub mod Tallies
