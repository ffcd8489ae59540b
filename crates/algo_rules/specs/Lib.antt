pub mod Links
pub mod Ports
pub mod Frontiers
pub mod Graphs
pub mod Resolved
pub mod Placed
pub mod WellRead
-- What the definitions here speak of: definitions, trees and references.
pub use Rattle.algo_text.specs.Among
pub use Rattle.algo_text.specs.Blocks
pub use Rattle.algo_text.specs.BodyCode
pub use Rattle.algo_text.specs.Expr
pub use Rattle.algo_text.specs.Formulas
pub use Rattle.algo_text.specs.Grammatical
pub use Rattle.algo_text.specs.Outer
pub use Rattle.algo_text.specs.Parts
pub use Rattle.algo_text.specs.Refusals
pub use Rattle.algo_text.specs.Returned
pub use Rattle.algo_text.specs.Text
pub use Rattle.algo_text.specs.Words
pub use Rattle.algo_tree.specs.Bounded
pub use Rattle.algo_tree.specs.Code as TreeCode
pub use Rattle.algo_tree.specs.Counted
pub use Rattle.algo_tree.specs.Ends
pub use Rattle.algo_tree.specs.Level
pub use Rattle.algo_tree.specs.Meaning
pub use Rattle.algo_tree.specs.Named
pub use Rattle.algo_tree.specs.Size
pub use Rattle.algo_tree.specs.Tree
pub use Rattle.algo_tree.specs.Typed
pub use Rattle.algo_tree.specs.Valid
pub use Rattle.algo_tree.specs.View
pub use Rattle.algo_tree.specs.Well
pub use Rattle.reference_graph.specs.Answer
pub use Rattle.reference_graph.specs.Links as ReferenceLinks
