-- What plan reading promises. The questions and the plan that bytes give are model's.
-- Headings: the plan that a heading and a memory show. Promise: what reading promises of any bytes. Rules: the plan rules as plain facts.
-- Reads: what the inner functions ask and promise.
pub mod Headings
pub mod Promise
pub mod Rules
pub mod Reads
