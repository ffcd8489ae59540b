pub mod Walk
pub mod Replying
mod Worked
