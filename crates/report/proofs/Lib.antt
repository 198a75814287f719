-- Counted: the ten numbers that are taken off a job are model's.
pub mod Counted
