pub mod Buffers
pub mod Opened
pub mod Pairs
pub mod Acts
pub mod Walks
