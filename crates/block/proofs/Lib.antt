pub mod Lists
pub mod Packed
pub mod Told
pub mod Unique
pub mod Order
