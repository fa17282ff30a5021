pub mod TypeCalls
pub mod TypeLookups
pub mod TypeOrigins
