pub mod Counting
pub mod Between
pub mod Numbers
pub mod Cuts
pub mod Totals
pub mod Sums
pub mod Told
pub mod Families
pub mod Media
pub mod Pairs
pub mod Progress
pub mod Serial
pub mod Fresh
pub mod OneMore
mod Example
mod ExampleMedium
pub mod Synchronized
pub mod Rounds
