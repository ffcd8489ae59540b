pub mod Lines
pub mod Architecture
pub mod Algorithm
pub mod Table
