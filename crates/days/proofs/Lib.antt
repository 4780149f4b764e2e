pub mod Solvings
pub mod Starting
pub mod Course
pub mod Each
pub mod Writing
pub mod Unique
