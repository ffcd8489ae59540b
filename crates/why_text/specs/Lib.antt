pub mod Lines
pub mod Views
pub mod Text
pub mod Said
