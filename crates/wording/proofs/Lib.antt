pub mod Bytes
pub mod Numbers
pub mod Lengths
pub mod Saying
pub mod Speaking
pub mod Stopping
