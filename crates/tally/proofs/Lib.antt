pub mod Summing
pub mod Counting
