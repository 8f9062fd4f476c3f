pub mod Answers
pub mod Running
pub mod Runs
pub mod Zeros
pub mod Unique
