-- The proofs, by topic. Theorems has every law of a history on one page: a stranger reads it first.
-- Deques, Occurrences: how often a number stands in lists. Readiness, Awaiting: when a task is ready, and how many predecessors it awaits.
-- Stealing, Thefts: what a steal takes and leaves. Withdrawals, Muggings: in which order a grant withdraws deques, and they are mugged.
-- WorkTicks: the two cases of a work tick. Cycles, Placement, Bounds, Grants: what a worker's cycle, a tick's cycles and a grant keep.
-- Accepted, Runs: accepted calls, and how a property is carried through a list of calls. Offers: what an offer comes to. Histories: where
-- the tasks stand after any calls. Progress: some worker works or mugs. Order: each task once and in order, and its ticks. Fronts: only a
-- front task is begun. Meaning: what the counts count. WholeTicks: what they add up to, and the tick that finishes a job. Counting: what a
-- tick's cycles spend. Ladder: what is used of the desires, and that both growths have it. Powers: the open quantum, and what a quantum's
-- end does to the desire. Tops, Rows: the table of top desires and the rows of whole parts, and that the desire stops there. PairingLaw:
-- the partners of the inefficient quanta. MugLimitLaw: the balance that bounds the mugs. SpentLaw: what the quanta so far have used, and
-- what 13 tells. Carried: these in one induction. Measures: how large the counts are after any calls. Lines: how many deques there are.
-- Written: a written log is read back. Seeds: drawn choices, and a seeded day as a log.
pub mod Deques
pub mod Occurrences
pub mod Withdrawals
pub mod Stealing
pub mod Readiness
pub mod Awaiting
pub mod WorkTicks
pub mod Cycles
pub mod Thefts
pub mod Placement
pub mod Bounds
pub mod Accepted
pub mod Runs
pub mod Offers
pub mod Muggings
pub mod Meaning
pub mod Counting
pub mod Grants
pub mod WholeTicks
pub mod Histories
pub mod Progress
pub mod Order
pub mod Fronts
pub mod Ladder
pub mod Powers
pub mod Tops
pub mod Rows
pub mod PairingLaw
pub mod MugLimitLaw
pub mod SpentLaw
pub mod Carried
pub mod Measures
pub mod Lines
pub mod Written
pub mod Seeds
pub mod Theorems
