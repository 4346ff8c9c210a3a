-- `Titles` is what a card's title shows; `Counts` is what a count of a text's bytes is.
pub mod Titles
pub mod Counts
