pub mod SetNumbers
pub mod RowListings
pub mod SetListings
pub mod EntryCalls
pub mod Demands
