pub mod Quoting
pub mod LineTexts
pub mod RowListings
pub mod RowSizes
pub mod StreamAnswers
pub mod StreamCalls
