pub mod Visits
pub mod Noted
