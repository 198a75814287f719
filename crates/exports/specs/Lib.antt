-- The static library. Promises: what its functions promise that show a job's words.
pub mod Promises
