pub mod Expanding
pub mod MicroCounts
pub mod Marks
pub mod DepthTable
pub mod Sums
pub mod Passing
pub mod Reading
pub mod DeepPairs
pub mod Formed
-- Lemmas from below, which proofs above cite with those of this crate.
pub use Rattle.archi_graph.proofs.Few
pub use Rattle.flat_graph.proofs.Facts
pub use Rattle.flat_graph.proofs.Fired
pub use Rattle.flat_graph.proofs.KindLens
pub use Rattle.flat_graph.proofs.ReadLens
pub use Rattle.flat_graph.proofs.Settled
pub use Rattle.flat_graph.proofs.Sizes as FlatSizes
pub use Rattle.interleavings.proofs.Numbers
pub use Rattle.interleavings.proofs.Sums as InterleavingSums
pub use Rattle.interleavings.proofs.Synchronized
