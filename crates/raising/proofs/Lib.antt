pub mod Existence
pub mod Raising
