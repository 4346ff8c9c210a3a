-- `Filling` is the form in which the recursion is proved; `Steps` is what its functions say.
pub mod Filling
pub mod Steps
