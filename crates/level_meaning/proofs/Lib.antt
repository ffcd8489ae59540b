pub mod Fuel
pub mod InOrder
pub mod CyclesLemmas
pub mod Reaching
