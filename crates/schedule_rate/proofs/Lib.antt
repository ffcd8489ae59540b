pub mod Filled
pub mod Stepping
pub mod Rated
