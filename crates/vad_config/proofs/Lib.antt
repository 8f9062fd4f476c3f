pub mod First
pub mod Ranges
pub mod Bounds
pub mod Laws
pub mod Unique
pub mod Examples
