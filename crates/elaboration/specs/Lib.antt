pub mod Marking
pub mod Walked
pub mod Stand
pub mod Elaborated
pub mod Laws
pub use Rattle.algo_laws.specs.Periods
-- What the definitions here speak of: pruned trees.
pub use Rattle.wiring_laws.specs.Pruned
