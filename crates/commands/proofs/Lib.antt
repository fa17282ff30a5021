pub mod PartLines
pub mod ListedParts
pub mod LineRuns
pub mod ShownSizes
pub mod FedLines
pub mod EveryInput
