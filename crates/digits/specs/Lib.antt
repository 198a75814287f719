-- Counted: what a digit count is. Spelling: what is put into a buffer for a number.
pub mod Counted
pub mod Spelling
