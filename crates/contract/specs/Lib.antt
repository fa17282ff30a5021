pub mod Rows
pub mod Holds
pub mod Answers
pub mod Ran
pub mod Opening
pub mod Searches
pub mod Entries
