pub mod Rows
pub mod Solve
pub mod Place
pub mod Examples
