pub mod Heads
-- Lemmas from below, which proofs above cite with those of this crate.
pub use Rattle.command_plan.proofs.Made
pub use Rattle.command_plan.proofs.Makes
pub use Rattle.command_plan.proofs.Mapped
pub use Rattle.command_plan.proofs.Meaning
pub use Rattle.command_plan.proofs.Refusals
pub use Rattle.command_plan.proofs.Stages
