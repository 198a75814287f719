-- Laws of lists, by topic. Sums: where numbers are 0, and their sum. Questions: the first "no" of a list of questions.
pub mod Tests
pub mod Lists
pub mod Sums
pub mod Ranges
pub mod Tables
pub mod Questions
