-- What the functions of this crate ask and promise.
pub mod Tallies
