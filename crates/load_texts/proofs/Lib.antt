pub mod Pieces
mod Worked
