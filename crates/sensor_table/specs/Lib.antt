pub mod Template
pub mod Answers
pub mod Columns
pub mod Reading
pub mod SensorTable
