-- Answers: the paper's number of each refusal. Forms: the forms as rows of model's table. Fields: the fields of bytes, and the questions of
-- fields that were read.
pub mod Answers
pub mod Forms
pub mod Fields
