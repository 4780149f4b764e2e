pub mod Unique
pub mod Rebuilds
