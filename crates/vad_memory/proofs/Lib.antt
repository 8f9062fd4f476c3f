pub mod Put
pub mod Parts
pub mod RoundTrip
pub mod Unique
