mod Rows
pub mod Greedy
pub mod Lists
pub mod Meaning
pub mod Rounds
pub mod Running
pub mod Solved
pub mod Tasks
pub mod Tight
pub mod Unique
pub mod Whole
-- Lemmas from below, which proofs above cite with those of this crate.
pub use Rattle.route_table.proofs.LeastRoutes
