pub mod Handing
pub mod ItemReplies
pub mod Recording
pub mod Telling
pub mod Turning
pub mod ScriptRuns
pub mod LedgerRuns
