pub mod Bytes
pub mod Lists
pub mod Characters
pub mod Folding
pub mod Comparing
pub mod FoldedNames
pub mod Classes
