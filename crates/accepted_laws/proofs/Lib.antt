pub mod Sorted
pub mod OuterNumbers
pub mod Trees
pub mod Elaborated
mod Worked
mod WorkedText
pub mod Stands
pub mod Definitions
pub mod Tables
pub mod PrunedEnds
pub mod Told
mod WorkedMarks
-- Lemmas from below, which proofs above cite with those of this crate.
pub use Rattle.act_text.proofs.EndCounts
pub use Rattle.elaboration.proofs.Whole
