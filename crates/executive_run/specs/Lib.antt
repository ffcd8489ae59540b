pub mod Each
pub mod Going
pub mod Groups
pub mod Places
pub mod Ready
pub mod Prepared
pub mod Sharing
