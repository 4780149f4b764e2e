pub mod Shorter
pub mod Examples
