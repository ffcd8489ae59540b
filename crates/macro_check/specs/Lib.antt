pub mod Tabled
pub mod Awaiting
pub mod Carrying
pub mod Causes
