pub mod Stored
pub mod Bridge
pub mod Whole
