pub mod Biquad
pub mod Orders
pub mod Settings
pub mod Operations
