pub mod EveryCall
pub mod EveryRun
