pub mod Graph
pub mod Order
pub mod Cycles
pub mod Valid
pub mod Fire
pub mod Put
pub mod Meaning
pub mod Laws
-- What the definitions here speak of: the functions of operations, and their levels.
pub use Rattle.body_lang.specs.Code as BodyCode
pub use Rattle.body_lang.specs.Expr
pub use Rattle.level_meaning.specs.Level
