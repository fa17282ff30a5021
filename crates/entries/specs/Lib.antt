pub mod Listing
pub mod Promise
pub mod Demand
pub mod RowTexts
pub mod Examples
