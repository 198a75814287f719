-- Blanks: a job has a task, so that the blank is none. Statuses: the status that words show, of a job and of the blank.
pub mod Blanks
pub mod Statuses
