-- What the contracts of `label` cite beside the model's definitions.
pub mod Found
pub mod Wording
pub mod Ends
