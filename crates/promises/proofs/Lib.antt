pub mod Turns
pub mod Demand3
pub mod Written
pub mod SmallTable
pub mod Example
pub mod Shown
pub mod Wrong
pub mod Broken
