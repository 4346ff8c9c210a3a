-- `Steps` is what the functions say.
pub mod Steps
