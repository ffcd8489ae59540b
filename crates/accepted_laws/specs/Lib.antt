pub mod TextLines
pub mod Flat
pub mod Accepted
pub mod Told
-- What the definitions here speak of: elaborated trees, their flat graphs, and the text of the actuators.
pub use Rattle.act_text.specs.Names as ActNames
pub use Rattle.act_text.specs.Text as ActText
pub use Rattle.elaboration.specs.Elaborated
pub use Rattle.elaboration.specs.Marking
pub use Rattle.elaboration.specs.Periods
pub use Rattle.flat_laws.specs.FlatOf
