pub mod Rows
pub mod Storing
