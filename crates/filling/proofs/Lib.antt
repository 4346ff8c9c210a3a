pub mod Added
pub mod Fillings
pub mod Pieces
