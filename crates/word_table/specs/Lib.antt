pub mod Driver
pub mod Answers
pub mod Closed
pub mod Owners
pub mod Parts
pub mod Weaving
pub mod Ends
