pub mod Walking
pub mod Places
pub mod Pouring
pub mod Rising
pub mod Extending
