pub mod Named
pub mod Algorithm
pub mod Numbered
pub mod Architecture
pub mod Printed
