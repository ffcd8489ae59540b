pub mod Placed
pub mod Texts
-- Lemmas from below, which proofs above cite with those of this crate.
pub use Rattle.archi_graph.proofs.Bounds
pub use Rattle.archi_graph.proofs.Few
