pub mod Filled
pub mod Placed
mod Worked
