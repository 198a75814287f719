-- Writing: an entry appended or refused, and what a reader of the buffer has of it. Stores: bytes put one after the other, a tick's choices
-- and drawn ones.
pub mod Writing
pub mod Stores
