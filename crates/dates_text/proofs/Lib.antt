pub mod Left
pub mod Counting
pub mod Entered
pub mod Fitting
pub mod Accepted
mod Worked
