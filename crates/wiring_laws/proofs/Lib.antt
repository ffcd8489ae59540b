pub mod Rounds
pub mod Idle
pub mod Values
pub mod Fits
pub mod Prunable
pub mod Meaning
pub mod Named
pub mod Valid
pub mod Size
pub mod Definitions
mod Worked
