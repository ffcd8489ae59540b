pub mod Taken
pub mod PortLines
pub mod AfterFirst
pub mod Outputs
pub mod Ends
pub mod Settled
pub mod LineCounts
