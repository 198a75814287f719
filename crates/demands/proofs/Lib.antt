-- Answers: the number 0 is acceptance. Demands: demands 2 and 3 over the jobs of a list of calls, and that each may be called again. Days:
-- what a seeded day leaves is what its log leaves.
pub mod Answers
pub mod Demands
pub mod Days
