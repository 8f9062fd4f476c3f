pub mod Stores
pub mod Every
pub mod Tests
pub mod Flags
pub mod Unique
