pub mod Maximum
pub mod Opening
pub mod Steps
pub mod Examples
