pub mod Among
pub mod Outer
pub mod Refusals
pub mod Returned
pub mod Words
pub mod Parts
pub mod Formulas
pub mod Grammatical
pub mod Blocks
pub mod Text
-- What the definitions here speak of: expressions and their ports.
pub use Rattle.body_lang.specs.Code as BodyCode
pub use Rattle.body_lang.specs.Expr
