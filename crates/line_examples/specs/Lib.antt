-- Wide: a plan with which 64 lines, and 64 orphans, are had at once.
pub mod Wide
