pub mod Log
pub mod Demand
pub mod Table
