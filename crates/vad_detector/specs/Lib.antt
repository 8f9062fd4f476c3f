pub mod Answers
pub mod Opening
pub mod Entries
pub mod Readings
pub mod Run
