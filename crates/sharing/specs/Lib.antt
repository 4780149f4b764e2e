pub mod Full
pub mod Test
