pub mod Emphasis
pub mod Energy
pub mod Grid
pub mod Inside
