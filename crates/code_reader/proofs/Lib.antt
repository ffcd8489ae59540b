pub mod Appending
pub mod Following
pub mod Found
pub mod NextLine
pub mod Wholes
