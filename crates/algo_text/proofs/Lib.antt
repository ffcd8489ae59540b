pub mod Texts
pub mod Grammars
pub mod PortNames
pub mod Judged
pub mod Checks
pub mod Parts
pub mod References
-- Lemmas from below, which proofs above cite with those of this crate.
pub use Rattle.body_lang.proofs.Sums
