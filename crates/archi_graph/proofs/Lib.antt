pub mod Bounds
pub mod Few
pub mod Flags
pub mod Names
pub mod Rounds
