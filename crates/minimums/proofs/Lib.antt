pub mod Order
pub mod Faults
pub mod Zeros
pub mod Accepting
pub mod Rowless
