pub mod Counted
pub mod Clued
