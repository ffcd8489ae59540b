pub mod Texts
pub mod Passes
pub mod LevelViews
pub mod Segments
pub mod Lists
pub mod Parts
pub mod SameParts
pub mod Appends
pub mod Views
pub mod Capped
mod Worked
-- Lemmas from below, which proofs above cite with those of this crate.
pub use Rattle.level_meaning.proofs.CyclesLemmas
pub use Rattle.level_meaning.proofs.Fuel
pub use Rattle.level_meaning.proofs.InOrder
