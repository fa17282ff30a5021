pub mod Runs
pub mod Walks
pub mod Copies
