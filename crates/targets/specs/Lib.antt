pub mod Targets
pub mod Relationships
pub mod Scratch
pub mod Examples
