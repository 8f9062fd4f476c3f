pub mod Finite
pub mod Parts
pub mod Examples
pub mod Unique
