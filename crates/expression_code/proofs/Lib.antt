pub mod Runs
pub mod Arms
pub mod Shifts
pub mod Worked
