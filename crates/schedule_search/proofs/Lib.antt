mod Worked
pub mod Whole
pub mod Lone
pub mod Timed
pub mod Way
pub mod Measures
