pub mod EndCounts
