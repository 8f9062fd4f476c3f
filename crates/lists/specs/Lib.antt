pub mod Every
pub mod Flags
