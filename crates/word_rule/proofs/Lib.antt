pub mod Joined
pub mod Views
pub mod Keeps
pub mod Shapes
pub mod Further
pub mod Allowed
pub mod Moving
pub mod Running
pub mod Splitting
pub mod Seats
pub mod Opening
pub mod Ending
mod Rows
-- Lemmas from below, which proofs above cite with those of this crate.
pub use Rattle.phase_laws.proofs.AgreeDelays
pub use Rattle.phase_laws.proofs.AgreeOwn
pub use Rattle.phase_laws.proofs.AgreeRuns
pub use Rattle.phase_laws.proofs.AgreeSteps
pub use Rattle.phase_laws.proofs.AgreeTells
pub use Rattle.phase_laws.proofs.AgreeTold
pub use Rattle.phase_laws.proofs.CoreStanding
pub use Rattle.phase_laws.proofs.Numbered
pub use Rattle.phase_laws.proofs.OpenStates
pub use Rattle.phase_laws.proofs.Ready
pub use Rattle.phase_laws.proofs.Together
