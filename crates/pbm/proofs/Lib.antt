pub mod Meaning
pub mod Order
pub mod Pages
pub mod Pixels
pub mod Reading
pub mod Told
pub mod Unique
