pub mod Table
pub mod Command
pub mod View
pub mod Plain
pub mod App
pub mod Answer
