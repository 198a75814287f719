-- What the contracts of `stored_set` cite beside the model's definitions.
pub mod Stored
