mod BoundLemmas
mod SignalLemmas
mod Greatest
pub mod Exported
