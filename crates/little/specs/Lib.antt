pub mod Little
pub mod Examples
