pub mod Ascending
pub mod Clean
pub mod Cuts
pub mod Each
pub mod LineParts
pub mod Lists
pub mod Naming
