pub mod Acts
pub mod Lines
pub mod Tight
pub mod Valid
pub mod Windows
-- What the definitions here speak of: flat graphs, architectures and durations.
pub use Rattle.durations.specs.Accepted
pub use Rattle.durations.specs.Archi
pub use Rattle.durations.specs.BodyCode
pub use Rattle.durations.specs.Expr
pub use Rattle.durations.specs.Fitting
pub use Rattle.durations.specs.FlatLaws
pub use Rattle.durations.specs.FlatOrder
pub use Rattle.durations.specs.FlatValid
pub use Rattle.durations.specs.Given
pub use Rattle.durations.specs.Graph
pub use Rattle.durations.specs.Lines as DurationLines
pub use Rattle.durations.specs.Meaning
pub use Rattle.durations.specs.Refusals
pub use Rattle.durations.specs.Routes
pub use Rattle.durations.specs.Sequences
pub use Rattle.durations.specs.Table
pub use Rattle.durations.specs.Text
