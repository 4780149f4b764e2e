pub mod Ends
pub mod Laying
pub mod Chains
pub mod Filling
pub mod Settling
pub mod Labelling
pub mod Instances
