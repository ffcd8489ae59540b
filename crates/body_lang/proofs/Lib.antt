pub mod Vectors
pub mod Sums
pub mod Bounds
