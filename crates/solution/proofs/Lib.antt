pub mod Above
pub mod Writing
pub mod Reading
pub mod RoundTrip
pub mod Unique
