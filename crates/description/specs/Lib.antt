-- `Calls` is what the public calls promise.
pub mod Calls
