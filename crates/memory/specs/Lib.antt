-- What a job's memory and words show, and when they are sound.
-- Parts: where each part of the memory lies. Words: what each word is. Graphs: the plan's graph and ticks. View: the deques, the ticks left
-- and the execution. Sound: when these are sound. Cycles: the numbers after a cycle. Jobs: the plan and the state of a job.
pub mod Parts
pub mod Words
pub mod Graphs
pub mod View
pub mod Sound
pub mod Cycles
pub mod Jobs
