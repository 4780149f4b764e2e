pub mod BoundedTable
pub mod Checks
pub mod Examples
