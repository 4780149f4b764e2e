pub mod Flows
pub mod Filling
pub mod Deciding
pub mod Examples
