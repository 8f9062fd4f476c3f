pub mod Filter
pub mod Run
