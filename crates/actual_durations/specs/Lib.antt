pub mod Actual
pub mod Answers
