pub mod Found
pub mod Texts
pub mod Counts
