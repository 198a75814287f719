-- The entry at a place of a log, and the model's entries from there on.
pub mod Reading
