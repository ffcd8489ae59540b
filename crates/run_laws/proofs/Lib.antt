pub mod Texts
pub mod Counts
mod Worked
