-- What the contracts of `counters` cite beside the model's definitions.
pub mod Line
