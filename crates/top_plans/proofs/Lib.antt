pub mod Loads
pub mod Checks
pub mod Schedules
pub mod Only
pub mod DurationRefusals
pub mod TableRefusals
pub mod Walk
pub mod Commands
mod Refusals
pub mod Texts
pub mod True
pub mod Written
pub mod Usage
pub mod Values
pub mod Steps
pub mod Architectures
mod Worked
-- Lemmas from below, which proofs above cite with those of this crate.
pub use Rattle.accepted_laws.proofs.EndCounts
pub use Rattle.accepted_laws.proofs.Whole
pub use Rattle.command_status.proofs.Made
pub use Rattle.command_status.proofs.Makes
pub use Rattle.command_status.proofs.Mapped
pub use Rattle.command_status.proofs.Meaning
pub use Rattle.command_status.proofs.Stages
