pub mod Helping
pub mod Sides
pub mod Finding
pub mod Examples
