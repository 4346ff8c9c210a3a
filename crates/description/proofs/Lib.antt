pub mod Described
pub mod Told
pub mod Unique
pub mod Order
