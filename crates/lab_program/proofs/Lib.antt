pub mod Carried
pub mod Counts
pub mod Schedules
pub mod Searched
