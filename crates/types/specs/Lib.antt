pub mod TypeRows
pub mod TypeOrigins
