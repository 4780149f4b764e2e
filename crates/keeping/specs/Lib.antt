pub mod SmallRows
pub mod Written
