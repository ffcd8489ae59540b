pub mod Accepted
pub mod Canonical
pub mod Durations
pub mod Given
pub mod Views
