-- `Shown` is what a person is shown of a cell.
pub mod Shown
