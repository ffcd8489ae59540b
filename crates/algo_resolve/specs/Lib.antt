pub mod Ready
pub mod Parts
pub mod Plans
pub mod Wiring
pub mod Rounds
