pub mod Sending
pub mod Answering
