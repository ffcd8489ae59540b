pub mod ReadBack
mod Worked
pub mod Taken
pub mod Values
pub mod Whole
pub mod Width
