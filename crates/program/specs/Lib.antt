-- What the contracts of `program` cite beside the model's definitions. Input: the input's refusals and parts. Output: what is printed.
pub mod Input
pub mod Output
