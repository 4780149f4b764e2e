pub mod Listing
pub mod Ranking
