pub mod Blocks
pub mod From
pub mod Setting
pub mod Places
pub mod Counting
pub mod Pairs
pub mod Readers
pub mod Buffers
pub mod Media
pub mod Sent
pub mod Wires
pub mod Synchronized
pub mod Order
pub mod Programs
pub mod Standing
pub mod StepsAt
pub mod Lengths
pub mod Joined
pub mod Halves
pub mod Computing
pub mod OwnCells
pub mod OwnRows
pub mod Stateful
pub mod OwnSteps
pub mod CallRegisters
pub mod OwnCalls
pub mod StoredValues
pub mod OwnCopies
pub mod OwnValues
pub mod AgreeSteps
pub mod AgreeLists
pub mod AgreeDelays
pub mod AgreePlaces
pub mod AgreeOwn
pub mod AgreeRuns
pub mod AgreeTells
pub mod AgreeTold
pub mod AgreeLaws
pub mod Together
mod Bounded
mod Within
mod Ended
pub mod Reached
mod Windows
mod OneWord
-- Lemmas from below, which proofs above cite with those of this crate.
pub use Rattle.semaphore_core.proofs.Jobs
pub use Rattle.semaphore_core.proofs.Numbered
pub use Rattle.semaphore_core.proofs.OpenStates
pub use Rattle.semaphore_core.proofs.Opened
pub use Rattle.semaphore_core.proofs.Ready
pub use Rattle.semaphore_core.proofs.RowFive
pub use Rattle.semaphore_core.proofs.Runs
pub use Rattle.semaphore_core.proofs.Standing as CoreStanding
