pub mod Plain
pub mod Level
pub mod Plot
pub mod Axis
pub mod Scale
pub mod Shapes
