pub mod Entries
pub mod Fitted
pub mod Found
pub mod Kept
pub mod Least
pub mod SetHalves
mod Worked
-- Lemmas from below, which proofs above cite with those of this crate.
pub use Rattle.archi_defs.proofs.Bounds
pub use Rattle.archi_defs.proofs.Few
pub use Rattle.flat_graph.proofs.Facts
pub use Rattle.flat_graph.proofs.KindLens
pub use Rattle.flat_graph.proofs.Rounds
pub use Rattle.flat_graph.proofs.Settled
