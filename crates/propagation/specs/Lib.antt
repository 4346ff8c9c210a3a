-- `Calls` is what the public calls promise; `Answered` is what the theorems about them speak of; `Steps` is what the private functions say.
pub mod Calls
pub mod Answered
pub mod Steps
