pub mod Writing
pub mod Reading
pub mod Rows
pub mod Examples
