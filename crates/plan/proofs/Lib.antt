-- Forms: the plan forms, and how long tasks last. Facts: what each question says as a fact. Sound: accepted exactly when the plan rules
-- hold, and what acceptance gives.
-- Stores, Steps, Whole, Answered: what the functions' proofs cite, in the order of reading.
pub mod Forms
pub mod Facts
pub mod Sound
pub mod Stores
pub mod Steps
pub mod Whole
pub mod Answered
