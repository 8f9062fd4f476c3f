pub mod Loudness
pub mod Setters
pub mod Closing
pub mod Judging
pub mod Positions
pub mod Rooms
