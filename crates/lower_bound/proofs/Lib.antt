pub mod Runs
pub mod Busy
pub mod Thousandths
pub mod Steps
pub mod Counting
pub mod WholeReport
mod WorkedReports
pub mod Low
pub mod WorkedBusiest
pub mod Back
pub mod Below
pub mod Done
pub mod Follow
pub mod Late
pub mod Least
pub mod Lesser
pub mod OperatorWork
pub mod Longer
pub mod Parts
pub mod Plain
pub mod Renewed
pub mod Short
pub mod Starting
pub mod Sums
pub mod Whole
mod Worked
