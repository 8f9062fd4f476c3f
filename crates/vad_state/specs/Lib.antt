pub mod State
pub mod Arrays
