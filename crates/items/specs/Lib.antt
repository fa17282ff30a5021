pub mod Wants
pub mod Clashes
pub mod Spans
