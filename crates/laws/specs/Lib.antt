-- What holds of every execution that grants and ticks reach: statements only. The proofs are in proofs/.
pub mod Invariants
pub mod Reached
pub mod Spent
pub mod Meaning
pub mod Awaited
