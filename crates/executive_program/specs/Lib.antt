pub mod Blocks
pub mod Instructions
pub mod MicroSteps
pub mod Steps
pub mod Expanded
pub mod Places
pub mod WellFormed
pub mod Sizes
-- What the definitions here speak of: flat graphs, architectures and interleavings.
pub use Rattle.archi_graph.specs.Archi
pub use Rattle.archi_graph.specs.Sequences
pub use Rattle.flat_graph.specs.BodyCode
pub use Rattle.flat_graph.specs.Expr
pub use Rattle.flat_graph.specs.Fire
pub use Rattle.flat_graph.specs.Graph
pub use Rattle.flat_graph.specs.Laws as FlatLaws
pub use Rattle.flat_graph.specs.Level
pub use Rattle.flat_graph.specs.Meaning
pub use Rattle.flat_graph.specs.Order as FlatOrder
pub use Rattle.flat_graph.specs.Valid as FlatValid
pub use Rattle.interleavings.specs.Fresh
pub use Rattle.interleavings.specs.Laws as InterleavingLaws
pub use Rattle.interleavings.specs.Media
pub use Rattle.interleavings.specs.Order as InterleavingOrder
pub use Rattle.interleavings.specs.Owners
pub use Rattle.interleavings.specs.Pairs
pub use Rattle.interleavings.specs.Precedence
pub use Rattle.interleavings.specs.Sites
pub use Rattle.interleavings.specs.Sound
pub use Rattle.interleavings.specs.Synchronized
pub use Rattle.interleavings.specs.System
