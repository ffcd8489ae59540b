pub mod Texts
pub mod Refusals
pub mod Parts
pub mod Rows
pub mod Appending
pub mod Placing
