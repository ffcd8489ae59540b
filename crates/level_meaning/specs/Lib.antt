pub mod Level
pub mod Order
pub mod Cycles
pub mod Parts
pub use Rattle.syn_base.specs.Vectors
