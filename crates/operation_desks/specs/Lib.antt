pub mod Operation
pub mod Desk
pub mod RegisterFile
pub mod Registers
pub mod RowLens
pub mod Rooms
