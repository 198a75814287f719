-- Writing: what writing an entry promises.
pub mod Writing
