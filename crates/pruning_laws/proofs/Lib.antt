pub mod Inlined
pub mod Guarded
pub mod Unrolled
pub mod Flattened
pub mod Marked
