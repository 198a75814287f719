-- Drawn: what a seeded tick's cycles ask and promise, and the seed that a seeded tick leaves.
pub mod Drawn
