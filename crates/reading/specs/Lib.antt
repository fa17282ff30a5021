pub mod Notes
pub mod Judging
pub mod Entering
