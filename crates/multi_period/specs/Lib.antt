pub mod Marks
pub mod Periods
pub mod Meaning
pub mod Laws
pub mod Seen
pub mod Within
