-- `Wording` is what a word and a number are read as; `Colours` is what the colours of a card and their words are.
pub mod Colours
pub mod Wording
