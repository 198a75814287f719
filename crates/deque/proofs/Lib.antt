-- The proofs, by topic.
pub mod Walks
pub mod Robbing
pub mod Releases
pub mod Stores
