pub mod Guarding
pub mod Same
