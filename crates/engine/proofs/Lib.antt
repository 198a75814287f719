-- Known: what is known of a job that calls reach. Moving: a refused call, and one call more. Answering: what a call is answered. Granting,
-- Ticking: an accepted grant and an accepted tick. Noting: an offer, its opening and its withdrawal. Accepting: the fresh job. Demands:
-- demands 2 and 3.
pub mod Known
pub mod Moving
pub mod Answering
pub mod Granting
pub mod Noting
pub mod Ticking
pub mod Accepting
pub mod Demands
