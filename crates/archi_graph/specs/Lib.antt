pub mod Archi
pub mod Routes
pub mod Sequences
