pub mod Read
pub mod Views
pub mod Wide
