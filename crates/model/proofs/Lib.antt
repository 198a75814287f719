-- Examples: that the worked examples hold, which the checker computes.
pub mod Examples
