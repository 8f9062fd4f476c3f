pub mod DetectorDoor
pub mod Inside
