-- `Ends` is what an answer tells of a run; `Steps` is what the private functions say.
pub mod Ends
pub mod Steps
