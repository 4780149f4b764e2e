pub mod Halting
pub mod Asked
