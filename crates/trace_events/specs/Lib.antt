pub mod DatesShown
pub mod DatesTrace
pub mod Events
pub mod Printed
pub mod Shown
pub mod Trace
pub mod Words
