-- Whole: what a whole read gives of the bytes that an input is known to have.
pub mod Whole
