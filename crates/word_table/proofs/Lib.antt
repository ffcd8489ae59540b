pub mod Own
pub mod Drivers
pub mod Making
pub mod Standing
pub mod Told
pub mod Starts
pub mod Beginning
pub mod Groups
pub mod Callers
pub mod Ends
pub mod Popped
pub mod Closings
pub mod Gathering
pub mod Finishing
pub mod TakingRows
pub mod LoopPlaces
mod Worked
