pub mod Places
pub mod Read
pub mod Door
pub mod RoundTrip
pub mod Carried
pub mod Unique
