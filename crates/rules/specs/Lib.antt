-- The paper: what a reader has to believe, from top to bottom. One line: Colour to Binary. Lists and clues: Packing, Ranges, Clue.
-- Refusals and the small table. Then boards, cards and runs, and the text of a picture.
pub mod Colour
pub mod Block
pub mod Placement
pub mod Answer
pub mod Binary
pub mod Packing
pub mod Ranges
pub mod Clue
pub mod Refusal
pub mod Table
pub mod Board
pub mod Card
pub mod CardRules
pub mod Run
pub mod Pbm
