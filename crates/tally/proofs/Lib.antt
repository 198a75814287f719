-- Tallying: a cycle more in the tally is a cycle more in the numbers. Settling: the words take a tally, store by store.
pub mod Tallying
pub mod Settling
