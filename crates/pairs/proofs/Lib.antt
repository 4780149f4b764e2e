pub mod Chains
pub mod Room
pub mod Unique
