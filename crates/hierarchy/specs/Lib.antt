pub mod Order
pub mod Begun
pub mod Numbers
pub mod Wires
pub mod Texts
pub mod Unchanged
pub mod Built
