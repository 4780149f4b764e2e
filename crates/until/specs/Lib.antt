pub mod Stepwise
pub mod Stopping
pub mod Gain
