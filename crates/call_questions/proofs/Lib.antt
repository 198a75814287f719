-- Answers: 17 choice by choice. Questions: by which an answer is found, question for question. Asking: the questions of the code are the
-- model's.
pub mod Answers
pub mod Questions
pub mod Asking
