pub mod Order
pub mod Begun
pub mod Store
pub mod Reaction
pub mod Ran
pub mod Simulated
