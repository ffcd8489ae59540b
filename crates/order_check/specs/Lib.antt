pub mod Calls
pub mod Carries
pub mod Transfers
pub mod Checked
pub mod Order
pub mod Sequenced
