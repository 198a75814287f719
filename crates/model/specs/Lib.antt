-- Document 01 as definitions, in its own order. A reader holds the two side by side.
-- Tests, Questions: the few tools that the rest is said with.
-- Plan, Machine, History: the method. Log, Label, Counters, Program: what stands on it. Digits: how long the counters line is.
-- Statements: what is promised of every list of calls. Thefts: what is promised of a steal (request U1). Muggings: in which order withdrawn
-- deques are mugged (request U8). WholeTicks: what a job's ticks add up to (request U6). Lasting: the ticks of a task, and where a begun
-- one stands (request U9). Offers: what an offer, an opening and a withdrawal do to a history (request U5). Lines: how many deques there
-- can be (request U12). Seeds: choices from a seed, and a seeded day as a log (request U13). Examples: the worked examples as one table,
-- which the checker computes.
pub mod Tests
pub mod Questions
pub mod Plan
pub mod Machine
pub mod History
pub mod Statements
pub mod Thefts
pub mod Muggings
pub mod WholeTicks
pub mod Lasting
pub mod Lines
pub mod Log
pub mod Offers
pub mod Seeds
pub mod Label
pub mod Counters
pub mod Digits
pub mod Program
pub mod Examples
