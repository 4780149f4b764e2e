pub mod Living
pub mod Reducing
pub mod Unique
