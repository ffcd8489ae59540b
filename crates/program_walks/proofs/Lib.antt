pub mod Guarded
pub mod Prologues
mod Walked
pub mod Written
pub mod ListTests
pub mod Passing
pub mod Readings
