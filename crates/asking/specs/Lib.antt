pub mod Asking
pub mod Examples
