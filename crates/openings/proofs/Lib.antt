pub mod Sides
pub mod Handing
pub mod Finding
pub mod Unique
