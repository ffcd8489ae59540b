pub mod Lacking
pub mod Sizes
pub mod Refused
pub mod Tables
pub mod Built
