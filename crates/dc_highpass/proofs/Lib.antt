pub mod Turns
pub mod Calls
pub mod Finite
pub mod Runs
pub mod Bias
pub mod Examples
pub mod Unique
