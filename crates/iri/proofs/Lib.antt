pub mod Splitting
pub mod DotRules
pub mod DotTurns
pub mod Merging
pub mod Transforms
pub mod FoldedPaths
