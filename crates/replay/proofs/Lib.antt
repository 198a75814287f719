-- Replayed: what is written is what the program prints of the whole input.
pub mod Replayed
