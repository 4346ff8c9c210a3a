pub mod Runs
pub mod Told
pub mod Unique
pub mod Order
pub mod Again
