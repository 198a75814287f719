-- Calls: a record that a call gives back may be handed to the next.
pub mod Calls
