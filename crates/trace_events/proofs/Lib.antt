pub mod Overlap
pub mod DatesShown
pub mod Told
pub mod Lanes
mod Rows
pub mod Slices
pub mod Texts
