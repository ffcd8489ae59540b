pub mod Bounds
pub mod Lines
pub mod Parts
pub mod Marks
pub mod Cycles
