pub mod Seeing
pub mod Heads
pub mod Beside
pub mod Saying
pub mod Worked
