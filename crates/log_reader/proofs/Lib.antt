-- Entries: the entry at a place is the first of model's entries from there on. Readers: reading on from reader to reader gives model's
-- entries.
pub mod Entries
pub mod Readers
