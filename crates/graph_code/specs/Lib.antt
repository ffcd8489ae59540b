pub mod Places
pub mod Fired
pub mod Compiled
