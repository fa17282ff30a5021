pub mod EntryLines
pub mod Streams
