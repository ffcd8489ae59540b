pub mod Communications
pub mod Crossings
pub mod MarkRows
pub mod Marks
pub mod Openings
pub mod Readings
