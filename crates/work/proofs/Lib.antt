pub mod Stepping
pub mod Advancing
pub mod Phasing
pub mod Going
pub mod Beside
