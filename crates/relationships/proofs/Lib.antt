pub mod RelationshipCalls
pub mod TargetResolutions
