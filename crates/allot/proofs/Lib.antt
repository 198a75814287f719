-- The proofs, by topic.
pub mod Ring
pub mod Withdrawals
pub mod Clears
pub mod Allotments
