-- Meaning: what model says of each case.
pub mod Meaning
