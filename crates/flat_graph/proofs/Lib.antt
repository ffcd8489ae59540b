pub mod Bodies
pub mod Rounds
pub mod Nodes
pub mod Settled
pub mod Windows
pub mod KindLens
pub mod Facts
pub mod Sizes
pub mod Fill
pub mod Firing
pub mod ReadLens
pub mod Fired
pub mod Loops
mod Worked
