pub mod Accepted
pub mod Fitting
pub mod Given
pub mod Lines
pub mod Table
-- What the definitions here speak of: flat graphs and architectures.
pub use Rattle.archi_defs.specs.Archi
pub use Rattle.archi_defs.specs.Refusals
pub use Rattle.archi_defs.specs.Routes
pub use Rattle.archi_defs.specs.Sequences
pub use Rattle.archi_defs.specs.Text
pub use Rattle.flat_graph.specs.BodyCode
pub use Rattle.flat_graph.specs.Expr
pub use Rattle.flat_graph.specs.Graph
pub use Rattle.flat_graph.specs.Laws as FlatLaws
pub use Rattle.flat_graph.specs.Meaning
pub use Rattle.flat_graph.specs.Order as FlatOrder
pub use Rattle.flat_graph.specs.Valid as FlatValid
