pub mod Commands
pub mod Together
pub mod Columns
pub mod Sends
pub mod Pieces
