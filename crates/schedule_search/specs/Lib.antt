pub mod Found
pub mod Drafts
pub mod Alone
