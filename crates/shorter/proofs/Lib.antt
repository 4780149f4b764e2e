pub mod Copying
pub mod Unique
