pub mod Bytes
mod Steps
pub mod Appending
pub mod Worked
