pub mod Coloured
pub mod Worded
