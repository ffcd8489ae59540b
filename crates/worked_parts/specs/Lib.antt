-- What the worked examples run on: files and outputs in memory.
pub use Rattle.outside.specs.ShelfMemory
