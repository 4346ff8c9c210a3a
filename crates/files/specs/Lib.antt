-- `Opening` is what is said of a file that was not opened.
pub mod Opening
