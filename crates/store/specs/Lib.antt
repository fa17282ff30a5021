pub mod Buffer
pub mod Layout
pub mod Rows
pub mod Packages
pub mod Places
