pub mod Adequation
pub mod Choice
pub mod Choosing
pub mod Pressure
pub mod Runs
pub mod Tails
pub mod Tasks
-- What the definitions here speak of: routes.
pub use Rattle.route_table.specs.Computed
pub use Rattle.route_table.specs.Table
