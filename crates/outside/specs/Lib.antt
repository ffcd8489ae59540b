pub mod Bytes
pub mod Faults
pub mod Shelf
pub mod Sink
pub mod SinkMemory
pub mod ShelfMemory
