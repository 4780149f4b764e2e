pub mod Shrinking
pub mod Meaning
