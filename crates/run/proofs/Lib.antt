pub mod Running
pub mod Started
