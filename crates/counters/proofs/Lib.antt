-- Spaced: numbers with a byte after each. Line: the line as a whole.
pub mod Spaced
pub mod Line
