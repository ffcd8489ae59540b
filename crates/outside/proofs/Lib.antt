pub mod Append
pub mod Pieces
