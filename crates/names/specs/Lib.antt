pub mod Names
pub mod Items
pub mod Types
pub mod Demand
pub mod Iris
pub mod Numbers
pub mod Reading
pub mod PlainBytes
