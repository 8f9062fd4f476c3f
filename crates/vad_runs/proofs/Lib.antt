pub mod Frames
pub mod Segments
pub mod Detector
