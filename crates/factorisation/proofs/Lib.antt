pub mod Placing
pub mod Unrolling
