-- Cases: the case at a place of a set is the first of the cases from there on. Counts: what is counted after the cases so far.
pub mod Cases
pub mod Counts
