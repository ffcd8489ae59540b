-- Lemmas from below, which proofs above cite with those of this crate.
pub use Rattle.algo_text.proofs.Checks
pub use Rattle.algo_text.proofs.Judged
pub use Rattle.algo_text.proofs.References
pub use Rattle.algo_tree.proofs.Capped
pub use Rattle.algo_tree.proofs.Texts
pub use Rattle.reference_graph.proofs.Enough
