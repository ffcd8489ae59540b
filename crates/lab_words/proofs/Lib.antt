pub mod Words
mod Worked
pub mod Listed
