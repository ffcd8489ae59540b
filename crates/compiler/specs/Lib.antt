pub mod Checked
pub mod Compiles
pub mod Schedules
pub mod Builds
pub mod Executions
pub mod Outputs
pub mod Tables
