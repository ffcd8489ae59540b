pub mod Elements
pub mod Rows
pub mod Job
pub mod Parts
pub mod IsJob
pub mod Totals
pub mod Core
pub mod Held
pub mod AtOpening
pub mod Told
pub mod Laws
-- What the definitions here speak of: the desks of operations.
pub use Rattle.operation_desks.specs.Operation
pub use Rattle.operation_desks.specs.Registers
pub use Rattle.operation_desks.specs.Rooms
pub use Rattle.operation_desks.specs.RowLens
