pub mod Causes
pub mod Told
pub mod SourceState
pub mod SinkState
pub mod Counted
