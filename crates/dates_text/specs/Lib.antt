pub mod Listing
pub mod Printed
pub mod Within
-- What the definitions here speak of: the chart of a schedule.
pub use Rattle.timing_chart.specs.Chart
