-- Loops over cells; the calls' statements from what was judged and run; then what the statements give.
pub mod Cells
pub mod Told
pub mod Order
pub mod Unique
pub mod Meaning
