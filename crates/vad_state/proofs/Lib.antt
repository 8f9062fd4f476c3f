pub mod Parts
pub mod Tests
pub mod Fills
pub mod Unique
