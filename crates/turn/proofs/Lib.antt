-- Cycling: one cycle, and that what shows the model's cycle is sound. Mugging, Stealing, Idling: the cycle of a worker whose deque is
-- empty. Ticking: a tick's cycles.
pub mod Cycling
pub mod Mugging
pub mod Stealing
pub mod Idling
pub mod Ticking
