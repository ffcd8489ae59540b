pub mod Filling
-- What the definitions here speak of: arcs, rates, and what an exact one is.
pub use Rattle.rates.specs.Arcs
pub use Rattle.rates.specs.ExactRates
pub use Rattle.rates.specs.Rates
pub use Rattle.rates.specs.Tables
