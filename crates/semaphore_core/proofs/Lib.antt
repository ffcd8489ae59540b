pub mod Viewing
pub mod Standing
pub mod Opened
pub mod Openings
pub mod Numbered
pub mod Prologues
pub mod Limits
pub mod Some
pub mod Jobs
pub mod OpenStates
pub mod RowVectors
pub mod Operate
pub mod Ready
pub mod Runs
pub mod Counting
pub mod FewSequences
pub mod RowFive
mod RowNine
