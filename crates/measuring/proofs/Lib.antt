pub mod Visiting
pub mod Lists
