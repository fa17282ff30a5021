pub mod Bools
pub mod Lists
pub mod Parts
pub mod Copies
pub mod Writes
pub mod Blocks
pub mod Turns
pub mod Cases
