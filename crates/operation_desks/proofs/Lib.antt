pub mod ReadVectors
pub mod Desks
pub mod DelayNumbers
pub mod MoreDesks
pub mod MoreRows
pub mod ZeroRows
pub mod Appending
