pub mod Checking
pub mod Rows
pub mod Examples
