pub mod Accepting
pub mod Filling
pub mod Places
pub mod Networks
