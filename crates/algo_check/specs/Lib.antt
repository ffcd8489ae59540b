pub mod Placing
pub mod Linked
pub mod Leveled
pub mod Tables
pub mod Counts
