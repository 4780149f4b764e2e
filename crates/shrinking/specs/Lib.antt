pub mod Smaller
pub mod Examples
