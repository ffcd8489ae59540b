pub mod Makes
pub mod Made
pub mod Mapped
pub mod Stages
pub mod Meaning
pub mod Refusals
mod Worked
-- Lemmas from below, which proofs above cite with those of this crate.
pub use Rattle.outside.proofs.Append
pub use Rattle.outside.proofs.Pieces
