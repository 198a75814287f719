-- The proofs, by topic.
pub mod Regions
pub mod Walks
pub mod Views
pub mod Words
pub mod Executions
