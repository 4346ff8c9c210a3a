pub mod Going
pub mod Stores
