-- Answers: the paper's number of each answer. Asked: the questions as the code asks them, of the words.
pub mod Answers
pub mod Asked
