pub mod Pack
pub mod Scratch
pub mod Demand
pub mod Examples
