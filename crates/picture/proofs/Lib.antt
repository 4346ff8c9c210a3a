pub mod Gathered
pub mod Fitted
pub mod Told
pub mod Unique
pub mod Order
pub mod Pictures
