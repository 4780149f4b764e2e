pub mod Sink
pub mod Gains
pub mod Stepwise
pub mod Growing
pub mod Stopping
