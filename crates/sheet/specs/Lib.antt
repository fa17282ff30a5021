pub mod Passing
pub mod Account
