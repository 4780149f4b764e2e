pub mod Handing
pub mod Showing
pub mod Unique
