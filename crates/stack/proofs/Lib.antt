-- The laws of the stack. A caller cites `Coded` and `Onces`.
pub mod Coded
pub mod Piling
pub mod Pushed
pub mod Onces
pub mod Buckets
pub mod Ordered
