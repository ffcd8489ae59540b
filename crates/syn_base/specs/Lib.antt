pub mod Arithmetic
pub mod Bytes
pub mod Integer
pub mod Limits
pub mod Name
pub mod Numbers
pub mod Rows
pub mod Vectors
