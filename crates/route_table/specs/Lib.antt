pub mod Computed
pub mod Known
pub mod Least
pub mod Search
pub mod Table
