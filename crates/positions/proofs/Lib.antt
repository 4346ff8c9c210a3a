pub mod Ranged
pub mod Judged
pub mod Told
pub mod Unique
pub mod Order
pub mod Meaning
