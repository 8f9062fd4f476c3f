pub mod FilterState
pub mod FilterDoor
pub mod Inside
