pub mod Days
pub mod Month
pub mod Promises
pub mod Ready
pub mod Examples
