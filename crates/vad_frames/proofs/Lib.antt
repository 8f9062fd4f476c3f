pub mod Turns
pub mod Laws
pub mod Bounds
pub mod Examples
pub mod Unique
