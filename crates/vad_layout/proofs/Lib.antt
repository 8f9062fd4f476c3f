pub mod InNumbers
pub mod InFloats
