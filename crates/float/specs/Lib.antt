pub mod Numbers
pub mod Finite
pub mod Fused
pub mod Root
pub mod Nearest
pub mod Whole
pub mod Inside
pub mod Settled
