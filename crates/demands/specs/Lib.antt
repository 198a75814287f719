-- Chain: the jobs that a plan's bytes and a list of calls left one after the other, whoever holds them. Day: the same of a seeded day, and
-- its log.
pub mod Chain
pub mod Day
