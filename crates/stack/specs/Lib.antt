-- `Stack` is what the public functions speak of; `Steps` is what the private ones say.
pub mod Stack
pub mod Steps
