pub mod Forms
pub mod ReadText
pub mod Refusals
pub mod Macros
pub mod Text
pub mod Placed
