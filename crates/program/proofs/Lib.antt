-- Printing: bytes put one after the other, and read back from the start. Ran: what is printed after a log. Asked: the questions of the
-- input and of the plan.
pub mod Printing
pub mod Ran
pub mod Asked
