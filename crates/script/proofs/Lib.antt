pub mod EightBytes
pub mod CallTests
