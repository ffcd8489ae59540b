pub mod Table
pub mod App
pub mod Command
pub mod View
pub mod Help
