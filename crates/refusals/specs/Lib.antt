-- Answers: the answer that a `Result` is.
pub mod Answers
