pub mod Called
pub mod Kept
pub mod Transferred
pub mod Exact
pub mod Listed
mod Ordered
mod WorkedProgram
