pub mod Scaling
pub mod Starting
