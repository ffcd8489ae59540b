pub mod Names
pub mod Asked
pub mod Answers
pub mod Plans
pub mod Refusals
pub mod Replies
