pub mod Config
pub mod Domain
pub mod Lengths
pub mod Settings
