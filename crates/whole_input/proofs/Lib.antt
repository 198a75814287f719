-- Filling: a read into the part of a buffer that is not filled.
pub mod Filling
