mod Rows
pub mod Bringing
pub mod Exact
pub mod Places
pub mod Texts
