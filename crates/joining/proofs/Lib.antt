pub mod Blocks
pub mod Sums
pub mod Adding
pub mod Writing
