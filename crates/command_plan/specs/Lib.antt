pub mod Plan
pub mod Ending
pub mod Stage
pub mod Answer
pub mod Run
pub mod Answers
-- What the definitions here speak of: files and outputs.
pub use Rattle.outside.specs.Bytes
pub use Rattle.outside.specs.Faults
pub use Rattle.outside.specs.Shelf
pub use Rattle.outside.specs.Sink
