pub mod Components
pub mod References
pub mod Scratch
pub mod Examples
