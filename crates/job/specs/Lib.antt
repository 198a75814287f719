-- The job record. Blank: the zeros from which acceptance starts. Status: the status that words show, and what is promised of it.
pub mod Blank
pub mod Status
