-- The proofs, by topic.
pub mod Desires
