pub mod Bounds
pub mod Door
pub mod Carried
pub mod Unique
