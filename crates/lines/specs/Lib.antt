pub mod Reading
pub mod Gathering
pub mod Printing
