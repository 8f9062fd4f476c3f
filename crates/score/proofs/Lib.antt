pub mod Table
pub mod Bits
pub mod Entries
pub mod Laws
pub mod Examples
