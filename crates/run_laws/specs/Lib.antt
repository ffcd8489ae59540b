pub mod Windows
pub mod Drives
