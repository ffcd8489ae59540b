pub mod Among
pub mod Appending
mod Mentioned
pub mod Missing
pub mod Numbering
pub mod Placed
mod Worked
