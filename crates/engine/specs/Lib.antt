-- The in-place core of a job. Reached: that a job comes from acceptance and calls. Moves: what acceptance and the calls promise.
-- Demands: demands 2 and 3 over a job that calls reach.
pub mod Reached
pub mod Moves
pub mod Demands
