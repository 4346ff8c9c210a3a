-- `Calls` is what the public calls promise; `Steps` is what the private functions say.
pub mod Calls
pub mod Steps
