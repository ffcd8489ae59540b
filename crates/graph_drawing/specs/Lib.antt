pub mod Colours
pub mod Drawn
pub mod FlatDrawing
pub mod Statements
pub mod Words
