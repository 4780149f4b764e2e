pub mod Adding
pub mod Amounts
pub mod Deciding
pub mod Answering
pub mod Worded
pub mod Own
pub mod Unique
