pub mod Each
pub mod Goings
pub mod Driving
pub mod Threads
pub mod KeptApart
