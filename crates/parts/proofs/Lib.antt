pub mod LastItems
pub mod GroupRuns
pub mod GroupEnds
pub mod PartWalks
pub mod OutputCopies
pub mod TextAnswers
pub mod PartCalls
