-- Showing: what is shown of a job in lent memory.
pub mod Showing
