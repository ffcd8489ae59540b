pub mod Code
pub mod Expr
pub mod Layout
