pub mod Suffixes
pub mod Rowed
pub mod Cuts
pub mod Joins
