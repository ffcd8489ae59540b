pub mod Status
pub mod Lines
pub mod Written
-- What the definitions here speak of: plans, and the causes for which texts are refused.
pub use Rattle.command_plan.specs.Answer
pub use Rattle.command_plan.specs.Answers as PlanAnswers
pub use Rattle.command_plan.specs.Bytes
pub use Rattle.command_plan.specs.Ending
pub use Rattle.command_plan.specs.Faults
pub use Rattle.command_plan.specs.Plan
pub use Rattle.command_plan.specs.Run
pub use Rattle.command_plan.specs.Shelf
pub use Rattle.command_plan.specs.Sink
pub use Rattle.command_plan.specs.Stage
pub use Rattle.macro_code.specs.Forms
pub use Rattle.macro_code.specs.ReadText
pub use Rattle.macro_code.specs.Refusals as CodeRefusals
pub use Rattle.macro_code.specs.Text as CodeText
pub use Rattle.sensor_table.specs.Answers as SensorAnswers
pub use Rattle.sensor_table.specs.SensorTable
pub use Rattle.sensor_table.specs.Template
