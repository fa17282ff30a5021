pub mod Judging
pub mod Sources
pub mod FoldedSources
pub mod BackAndForth
